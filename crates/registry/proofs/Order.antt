-- A binary search among keys that are in order.
use Rattle.std.proofs.Common.{◌≡◌, ℕ, ◌<◌, ◌≤◌, ◌⊎◌, List, length, map, get_or, Result, Ok, Err, MatchResult, All, refl, sym, ap, ◌∙◌, subst, arith, inl, inr, ⊎_elim}
use Rattle.std.specs.Cmp.{IsTotalOrder}
use Rattle.std.specs.Ordering.{ordering_index, ordering_reverse}
use Rattle.std.specs.List.{AllWithin, HoldsAt}
use Rattle.std.specs.List.Sorted.{IsBinarySearchResult, IsNonDecreasingBy}
use Rattle.std.specs.declared.cmp.Ordering.{Ordering}
use Rattle.std.specs.declared.cmp.Ordering.TheVariants.{Less, Equal, Greater}
use Rattle.std.proofs.lemmas.List.{get_or-map, length-map}
use Rattle.std.proofs.lemmas.Bool.{cases_lt}
use Rattle.registry.specs.Order.{AreInOrder}

lt_or_same : (i j : ℕ) → i ≤ j → (i < j) ⊎ (i ≡ j)
lt_or_same i j h = ⊎_elim inl (λ le. inr (omega arith)) (cases_lt i j)

module _ {K : Type 0} {cmp : K → K → Ordering} (o : IsTotalOrder cmp) where
  behind : (b q : K) → cmp q b ≡ Less → cmp b q ≡ Greater
  behind b q h = o.antisymm b q ∙ ap ordering_reverse h

  -- a key is equal to itself
  pub self_equal : (a : K) → cmp a a ≡ Equal
  self_equal a = own (cmp a a) (o.antisymm a a)
    where
      own : (r : Ordering) → r ≡ ordering_reverse r → r ≡ Equal
      own Less e = cc
      own Equal e = refl
      own Greater e = cc

  past : (n : ℕ) (r : Ordering) → n ≤ 2 → r ≡ Greater → n ≤ ordering_index r
  past n r h e = subst (λ (s : Ordering). n ≤ ordering_index s) (sym e) h

  rises_from : (a b q : K) → cmp a b ≡ Less → (r : Ordering) → cmp a q ≡ r → ordering_index r ≤ ordering_index (cmp b q)
  rises_from a b q h Less e = omega arith
  rises_from a b q h Equal e = past 1 _ (omega arith) (behind b q (sym (o.congr a q b e) ∙ h))
  rises_from a b q h Greater e = past 2 _ (omega arith) (behind b q (o.trans q a b (o.antisymm q a ∙ ap ordering_reverse e) h))

  pub rises : (a b q : K) → cmp a b ≡ Less → ordering_index (cmp a q) ≤ ordering_index (cmp b q)
  rises a b q h = rises_from a b q h (cmp a q) (λ _. cmp a q)

  module _ {X : Type 0} (key : X → K) where
    pub at_two : (xs : List X) (i j : ℕ) (d : X) → AreInOrder cmp (map key xs) → i < j → j < length xs → cmp (key (get_or xs i d)) (key (get_or xs j d)) ≡ Less
    at_two xs i j d h lt l =
        let e = get_or-map key xs i d (key d) (omega arith) in
        let f = get_or-map key xs j d (key d) l in
        subst (λ (a : K). cmp a (key (get_or xs j d)) ≡ Less) e (subst (λ (b : K). cmp (get_or (map key xs) i (key d)) b ≡ Less) f (h i j (key d) lt (omega (arith, length-map xs key))))

    pub rising : (xs : List X) (q : K) → AreInOrder cmp (map key xs) → IsNonDecreasingBy (λ x. ordering_index (cmp (key x) q)) xs
    rising xs q h i j d le l = ⊎_elim (λ lt. rises _ _ q (at_two xs i j d h lt l)) (λ e. subst (λ (k : ℕ). ordering_index (cmp (key (get_or xs i d)) q) ≤ ordering_index (cmp (key (get_or xs k d)) q)) e (omega arith)) (lt_or_same i j le)

    -- what was searched for is at this place, or belongs there
    pub searched : (xs : List X) (q : K) (r : Result ℕ ℕ) → AreInOrder cmp (map key xs) → IsBinarySearchResult (λ x. cmp (key x) q) xs r
        → MatchResult r (HoldsAt (λ x. cmp (key x) q ≡ Equal) xs) (λ i. AllWithin (λ x. cmp (key x) q ≡ Less) xs 0 i × AllWithin (λ x. cmp (key x) q ≡ Greater) xs i (length xs))
    searched xs q (Ok i) h s = s
    searched xs q (Err i) h s = s (rising xs q h)

    -- what stands nowhere is not there
    pub missing : (xs : List X) (q : K) (i : ℕ) → AllWithin (λ x. cmp (key x) q ≡ Less) xs 0 i → AllWithin (λ x. cmp (key x) q ≡ Greater) xs i (length xs) → All (λ x. cmp (key x) q ≡ Equal → ⊥) xs
    missing xs q i low high k d l e = ⊎_elim (λ lt. let h = low k d (omega arith) lt in cc) (λ le. let h = high k d le l in cc) (cases_lt k i)

    -- a key stands at one place
    pub one_place : (xs : List X) (i k : ℕ) (d : X) → AreInOrder cmp (map key xs) → i < length xs → k < length xs → cmp (key (get_or xs i d)) (key (get_or xs k d)) ≡ Equal → i ≡ k
    one_place xs i k d h l m e = ⊎_elim
        (λ lt. let less = at_two xs i k d h lt m in absurd (let f : Less ≡ Equal = sym less ∙ e in cc))
        (λ le. ⊎_elim
        (λ lt. let less = at_two xs k i d h lt l in absurd (let f : Greater ≡ Equal = sym (o.antisymm (key (get_or xs i d)) (key (get_or xs k d)) ∙ ap ordering_reverse less) ∙ e in cc))
        (λ is. sym is)
        (lt_or_same k i le))
        (cases_lt i k)

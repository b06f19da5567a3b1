-- Swaps, one after the other, and one more.
use Rattle.std.proofs.Common.{◌≡◌, ◌≢◌, ℕ, ◌<◌, ◌==◌, Bool, true, false, cond, List, [], ◌∷◌, ◌++◌, All, Option, refl, sym, ap, ◌∙◌, subst, append-nil, eq-eqb, ne_eqb, arith}
use Rattle.std.proofs.lemmas.List.Elements.{filter-append, All-nil, All-cons, All-head, All-tail}
pub use Rattle.annals.proofs.CallerLemmas.{beginning_refl, beginning_empty}
use Rattle.annals.proofs.CallerLemmas.{beginning_more}
use Rattle.desk.specs.Swaps.{Swap, lies_after, AreInTurnAfter, swaps_of, IsBeginning}

module _ {T : Type 0} where
  pub in_turn_push : (before : Option T) (swaps : List (Swap T)) (s : Swap T) → AreInTurnAfter before swaps → s.found ≡ lies_after before swaps → AreInTurnAfter before (swaps ++ s ∷ [])
  in_turn_push before [] s h e = (e, tt)
  in_turn_push before (x ∷ xs) s h e = (h.0, in_turn_push x.left xs s h.1 e)

  pub lies_push : (before : Option T) (swaps : List (Swap T)) (s : Swap T) → lies_after before (swaps ++ s ∷ []) ≡ s.left
  lies_push before [] s = refl
  lies_push before (x ∷ xs) s = lies_push x.left xs s

  pub beginning_push : (seen swaps : List (Swap T)) (s : Swap T) → IsBeginning seen swaps → IsBeginning seen (swaps ++ s ∷ [])
  beginning_push seen swaps s h = beginning_more seen swaps (s ∷ []) h

  chosen : (number : ℕ) (s : Swap T) (b : Bool) → (s.by == number) ≡ b → swaps_of number (s ∷ []) ≡ cond b (s ∷ []) []
  chosen number s b e = ap (λ (z : Bool). cond z (s ∷ []) []) e

  pub swaps_of_other : (number : ℕ) (swaps : List (Swap T)) (s : Swap T) → s.by ≢ number → swaps_of number (swaps ++ s ∷ []) ≡ swaps_of number swaps
  swaps_of_other number swaps s n = filter-append (λ (x : Swap T). x.by == number) swaps (s ∷ [])
      ∙ (ap (λ l. swaps_of number swaps ++ l) (chosen number s false (ne_eqb s.by number n)) ∙ append-nil (swaps_of number swaps))

  pub swaps_of_own : (number : ℕ) (swaps : List (Swap T)) (s : Swap T) → s.by ≡ number → swaps_of number (swaps ++ s ∷ []) ≡ swaps_of number swaps ++ s ∷ []
  swaps_of_own number swaps s e = filter-append (λ (x : Swap T). x.by == number) swaps (s ∷ [])
      ∙ ap (λ l. swaps_of number swaps ++ l) (chosen number s true (eq-eqb s.by number e))

  -- with one seat all swaps are its own
  pub all_own : (swaps : List (Swap T)) → All (λ s. s.by < 1) swaps → swaps_of 0 swaps ≡ swaps
  all_own [] h = refl
  all_own (s ∷ ss) h = let head = All-head (λ (x : Swap T). x.by < 1) s ss h in let none : s.by ≡ 0 = omega (arith, head) in
      ap (λ (z : Bool). cond z (s ∷ swaps_of 0 ss) (swaps_of 0 ss)) (eq-eqb s.by 0 none) ∙ ap (λ l. s ∷ l) (all_own ss (All-tail (λ (x : Swap T). x.by < 1) s ss h))

  front : (xs ys : List (Swap T)) → All (λ s. s.by < 1) (xs ++ ys) → All (λ s. s.by < 1) xs
  front [] ys g = All-nil (λ (s : Swap T). s.by < 1)
  front (x ∷ xs) ys g = All-cons (λ (s : Swap T). s.by < 1) x xs (All-head (λ (s : Swap T). s.by < 1) x (xs ++ ys) g) (front xs ys (All-tail (λ (s : Swap T). s.by < 1) x (xs ++ ys) g))

  -- and it has seen them all, if it has seen all of its own
  pub same_swaps : (seen swaps : List (Swap T)) (number : ℕ) → number ≡ 0 → All (λ s. s.by < 1) swaps → IsBeginning seen swaps → swaps_of number swaps ≡ swaps_of number seen → swaps ≡ seen
  same_swaps seen swaps number first all since own = sym (all_own swaps all)
      ∙ (ap (λ n. swaps_of n swaps) (sym first) ∙ (own ∙ (ap (λ n. swaps_of n seen) first ∙ all_own seen (front seen since.rest (subst (All (λ s. s.by < 1)) since.whole all)))))

  pub before_last : (xs : List (Swap T)) (x : Swap T) → All (λ s. s.by < 1) (xs ++ x ∷ []) → All (λ s. s.by < 1) xs
  before_last xs x h = front xs (x ∷ []) h

  pub last : (xs : List (Swap T)) (x : Swap T) → All (λ s. s.by < 1) (xs ++ x ∷ []) → x.by < 1
  last [] x g = All-head (λ (s : Swap T). s.by < 1) x [] g
  last (y ∷ ys) x g = last ys x (All-tail (λ (s : Swap T). s.by < 1) y (ys ++ x ∷ []) g)

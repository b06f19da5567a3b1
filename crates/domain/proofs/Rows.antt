-- What a loop does to each of a list, one after the other.
use Rattle.std.proofs.Common.{◌≡◌, ℕ, ◌+◌, ◌<◌, ◌≤◌, List, get_or, set, length, length-set, refl, sym, ap, ◌∙◌, subst, arith, get_or-set_other, get_or-set_same}
use Rattle.std.proofs.lemmas.List.{get_or_default, set-get_or}
use mathlib.Core.Logic.{dite}
use native.Mathlib.Decide.{ℕ_discrete}

module _ {X : Type 0} where
  -- so many of them have become what they are to become, and the others are as they were
  pub record Goes (P : X → X → Type 0) (m : ℕ) (xs ys : List X) : Type 0 where
    pub count : length ys ≡ length xs
    pub done : (k : ℕ) (d : X) → k < m → P (get_or xs k d) (get_or ys k d)
    pub rest : (k : ℕ) (d : X) → m ≤ k → get_or ys k d ≡ get_or xs k d

  pub goes_none : (P : X → X → Type 0) (xs : List X) → Goes P 0 xs xs
  goes_none P xs = record { count = refl; done = λ k d lt. absurd (omega (arith, lt)); rest = λ k d _. refl }

  -- the next one is still as it was
  pub item_was : (P : X → X → Type 0) (m : ℕ) (xs ys : List X) (item d : X) → Goes P m xs ys → item ≡ get_or ys m d → item ≡ get_or xs m d
  item_was P m xs ys item d h is = is ∙ h.rest m d (omega arith)

  pub item_has : (P : X → X → Type 0) (Q : X → Type 0) (m : ℕ) (xs ys : List X) (item d : X) → Goes P m xs ys → m < length ys → item ≡ get_or ys m d → ((k : ℕ) (d : X) → k < length xs → Q (get_or xs k d)) → Q item
  item_has P Q m xs ys item d h inside is all = let count = h.count in subst Q (sym (item_was P m xs ys item d h is)) (all m d (omega (arith, inside, count)))

  pub goes_next : (P : X → X → Type 0) (m : ℕ) (xs ys : List X) (item new d : X) → Goes P m xs ys → m < length ys → item ≡ get_or ys m d → P item new → Goes P (m + 1) xs (set ys m new)
  goes_next P m xs ys item new d h inside is here = record {
    count = length-set ys m new ∙ h.count;
    done = λ k b lt. dite (ℕ_discrete k m)
        (λ e. let was : item ≡ get_or xs k b = item_was P m xs ys item d h is ∙ (get_or_default xs m d b (let count = h.count in omega (arith, inside, count)) ∙ ap (λ z. get_or xs z b) (sym e)) in
        let now : new ≡ get_or (set ys m new) k b = sym (ap (λ z. get_or (set ys m new) z b) e ∙ get_or-set_same ys m new b inside) in
        subst (λ (z : X × X). P z.0 z.1) (λ i. (was i, now i)) here)
        (λ ne. subst (λ (z : X). P (get_or xs k b) z) (sym (get_or-set_other ys m k new b ne)) (h.done k b (omega (arith, lt, ne))));
    rest = λ k b le. get_or-set_other ys m k new b (λ e. absurd (omega (arith, le, e))) ∙ h.rest k b (omega (arith, le));
  }

  -- nothing has become of them
  pub still : (m : ℕ) (xs ys : List X) (item new d : X) → ys ≡ xs → new ≡ item → item ≡ get_or ys m d → set ys m new ≡ xs
  still m xs ys item new d same is at = ap (λ z. set ys m z) (is ∙ at) ∙ (set-get_or ys m d ∙ same)

  -- what was true of those so far and is true of the next one
  pub each_next : (Q Q' : X → Type 0) (m : ℕ) (xs : List X) (item d : X) → m < length xs → item ≡ get_or xs m d → ((x : X) → Q x → Q' x) → Q' item
      → ((k : ℕ) (d : X) → k < m → Q (get_or xs k d)) → (k : ℕ) (d : X) → k < m + 1 → Q' (get_or xs k d)
  each_next Q Q' m xs item d inside is goes here so_far k b lt = dite (ℕ_discrete k m)
      (λ e. let was : item ≡ get_or xs k b = is ∙ (get_or_default xs m d b inside ∙ ap (λ z. get_or xs z b) (sym e)) in subst Q' was here)
      (λ ne. goes _ (so_far k b (omega (arith, lt, ne))))

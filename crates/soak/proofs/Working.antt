-- Workers in a vector whose slice was lent to threads.
use Rattle.std.proofs.Common.{◌≡◌, ℕ, zero, suc, ◌<◌, List, [], ◌∷◌, ◌++◌, All, length, take, drop, get_or, refl, sym, subst, arith}
use Rattle.std.proofs.lemmas.List.{get_or-take, length-take-le, length-append, length-drop}
use Rattle.domain.specs.Views.{DomainView}
use Rattle.soak.specs.declared.worker.Worker.{Worker}
use Rattle.soak.specs.Workers.{IsAtWork}

-- what is in the vector when its slice, lent as these, comes back as those
abbrev behind : {X : Type 0} → ℕ → List X → List X → List X
behind n items new = take n (new ++ drop (length new) items)

-- at each place what was written there
kept : {X : Type 0} (new items : List X) (n i : ℕ) (d : X) → i < n → n ≡ length items → get_or (behind n items new) i d ≡ get_or new i (get_or items i d)
kept [] items n i d lt same = get_or-take n items i d lt
kept (x ∷ new) [] n i d lt same = absurd (omega (arith, lt, same))
kept (x ∷ new) (y ∷ items) zero i d lt same = absurd (omega (arith, lt))
kept (x ∷ new) (y ∷ items) (suc n) zero d lt same = refl
kept (x ∷ new) (y ∷ items) (suc n) (suc i) d lt same = kept new items n i d (omega (arith, lt)) (omega (arith, same))

as_long : {X : Type 0} (new items : List X) (n : ℕ) → n ≡ length items → length (behind n items new) ≡ n
as_long new items n same =
    let both = length-append new (drop (length new) items) in
    let rest = length-drop (length new) items in
    length-take-le n (new ++ drop (length new) items) (omega (arith, same, both, rest))

-- all stay at work
pub all_worked : (d : DomainView) (items new : List Worker) (n : ℕ) → n ≡ length items → ((i : ℕ) (w : Worker) → i < length items → IsAtWork d (get_or new i w)) → All (IsAtWork d) (behind n items new)
all_worked d items new n same each =
    let long : length (behind n items new) ≡ n = as_long new items n same in
    λ i w lt.
    let at : i < n = omega (arith, lt, long) in
    subst (λ (v : Worker). IsAtWork d v) (sym (kept new items n i w at same)) (each i (get_or items i w) (omega (arith, at, same)))

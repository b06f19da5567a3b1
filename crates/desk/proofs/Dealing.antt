-- The seats of a new desk.
use Rattle.std.proofs.Common.{◌≡◌, ℕ, ◌<◌, List, [], ◌∷◌, ◌++◌, length, get_or, sym, ap, ◌∙◌, arith}
use Rattle.std.proofs.lemmas.List.{get_or_push, get_or_append_left, length-append}
use mathlib.Core.Logic.{dite}
use native.Mathlib.Decide.{ℕ_discrete}
use Rattle.desk.specs.Glossary.{DeskView, SeatView, new_seat}

module _ {T : Type 0} where
  abbrev pub AreNewSoFar : DeskView → List (SeatView T) → Type 0
  AreNewSoFar d seats = (k : ℕ) (v : SeatView T) → k < length seats → get_or seats k v ≡ new_seat d k

  pub new_so_far : (d : DeskView) (i : ℕ) (seats : List (SeatView T)) (new : SeatView T) → length seats ≡ i → new ≡ new_seat d i → AreNewSoFar d seats → AreNewSoFar d (seats ++ new ∷ [])
  new_so_far d i seats new count is all k v lt = dite (ℕ_discrete k i)
      (λ e. get_or_push seats new v k (count ∙ sym e) ∙ (is ∙ ap (λ z. new_seat d z) (sym e)))
      (λ ne. let long = length-append seats (new ∷ []) in let inside : k < length seats = omega (arith, long, lt, ne, count) in get_or_append_left seats (new ∷ []) v k inside ∙ all k v inside)

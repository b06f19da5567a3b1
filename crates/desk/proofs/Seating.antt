-- For callers: these are all seats of a desk.
use Rattle.std.proofs.Common.{◌≡◌, ℕ, zero, suc, ◌<◌, List, [], ◌∷◌, get_or, map, length, refl, ap, ◌∙◌, arith}
use Rattle.std.proofs.lemmas.List.Elements.{All-nil, All-cons}
use mathlib.Core.Logic.{dite}
use native.Mathlib.Decide.{ℕ_discrete}
use Rattle.desk.specs.Glossary.{DeskView, SeatView, new_seat, AreNewSeats, AreAllSeats}

module _ {T : Type 0} (d : DeskView) where
  pub sole_seat : (v : SeatView T) → v.desk ≡ d.desk → v.number ≡ 0 → d.seats ≡ 1 → AreAllSeats d (v ∷ [])
  sole_seat v here first one = record {
    of_desk = All-cons (λ (z : SeatView T). z.desk ≡ d.desk) v [] here (All-nil (λ (z : SeatView T). z.desk ≡ d.desk));
    each = λ n lt. (0, omega arith, omega (arith, lt, first, one));
  }

  pub two_seats : (v w : SeatView T) → v.desk ≡ d.desk → w.desk ≡ d.desk → v.number ≡ 0 → w.number ≡ 1 → d.seats ≡ 2 → AreAllSeats d (v ∷ w ∷ [])
  two_seats v w here there first second two = record {
    of_desk = All-cons (λ (z : SeatView T). z.desk ≡ d.desk) v (w ∷ []) here (All-cons (λ (z : SeatView T). z.desk ≡ d.desk) w [] there (All-nil (λ (z : SeatView T). z.desk ≡ d.desk)));
    each = λ n lt. dite (ℕ_discrete n 0) (λ e. (0, omega arith, omega (arith, first, e))) (λ ne. (1, omega arith, omega (arith, second, lt, two, ne)));
  }

  length_numbers : (vs : List (SeatView T)) → length (map (λ (v : SeatView T). v.number) vs) ≡ length vs
  length_numbers [] = refl
  length_numbers (v ∷ vs) = ap suc (length_numbers vs)

  number_at : (vs : List (SeatView T)) (k n : ℕ) (v : SeatView T) → k < length vs → get_or (map (λ (z : SeatView T). z.number) vs) k n ≡ (get_or vs k v).number
  number_at [] k n v lt = absurd (omega arith)
  number_at (z ∷ zs) zero n v lt = refl
  number_at (z ∷ zs) (suc k) n v lt = number_at zs k n v (omega arith)

  -- those that a new desk was made with
  pub new_seats : (vs : List (SeatView T)) → AreNewSeats d vs → AreAllSeats d vs
  new_seats vs h = record {
    of_desk = λ k v lt. ap (λ (z : SeatView T). z.desk) (h.each k v lt);
    each = λ n lt. let long = length_numbers vs in let count = h.count in let inside : n < length vs = omega (arith, count, lt) in
        (n, omega (arith, long, inside), number_at vs n n (new_seat d 0) inside ∙ ap (λ (z : SeatView T). z.number) (h.each n (new_seat d 0) inside));
  }

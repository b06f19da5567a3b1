-- For the tests with threads: what they end with.
use Rattle.std.proofs.Common.{◌≡◌, [], ◌∷◌, arith}
use Rattle.std.proofs.lemmas.List.Elements.{All-nil, All-cons}
use mathlib.Core.Logic.{dite}
use native.Mathlib.Decide.{ℕ_discrete}
use Rattle.desk.specs.Views.{DeskView, SeatView}
use Rattle.desk.specs.Calls.{AreAllSeats}

-- four seats with different numbers are all seats of a desk that has four
module _ {T : Type 0} (d : DeskView) where
  abbrev IsThere : SeatView T → Type 0
  IsThere v = v.desk ≡ d.desk

  pub four_seats : (u v w x : SeatView T) → IsThere u × (u.number ≡ 0) → IsThere v × (v.number ≡ 1) → IsThere w × (w.number ≡ 2) → IsThere x × (x.number ≡ 3) → d.seats ≡ 4 → AreAllSeats d (u ∷ v ∷ w ∷ x ∷ [])
  four_seats u v w x first second third fourth four = record {
    of_desk = All-cons IsThere u (v ∷ w ∷ x ∷ []) first.0 (All-cons IsThere v (w ∷ x ∷ []) second.0 (All-cons IsThere w (x ∷ []) third.0 (All-cons IsThere x [] fourth.0 (All-nil IsThere))));
    each = λ n lt.
        let a = first.1 in
        let b = second.1 in
        let e = third.1 in
        let f = fourth.1 in
        dite (ℕ_discrete n 0) (λ is. (0, omega arith, omega (arith, a, is))) (λ n0.
        dite (ℕ_discrete n 1) (λ is. (1, omega arith, omega (arith, b, is))) (λ n1.
        dite (ℕ_discrete n 2) (λ is. (2, omega arith, omega (arith, e, is))) (λ n2. (3, omega arith, omega (arith, f, lt, four, n0, n1, n2)))));
  }

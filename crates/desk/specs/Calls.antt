-- What the calls of a desk promise.
use Rattle.std.specs.Prelude.{◌≡◌, ℕ, ◌<◌, List, [], ◌∷◌, ◌++◌, map, length, slice_index_or, All, Contains, Option}
use Rattle.atomic_table.specs.Seated.{TableId}
use Rattle.desk.specs.Swaps.{Swap, lies_behind, AreInTurn, swaps_of, IsBeginning}
use Rattle.desk.specs.Views.{DeskView, SeatView}

abbrev pub IsNewDesk : TableId → ℕ → DeskView → Type 0
IsNewDesk domain seats d = (d.domain ≡ domain) × (d.seats ≡ seats)

module _ {T : Type 0} where
  abbrev pub new_seat : DeskView → ℕ → SeatView T
  new_seat d number = record { desk = d.desk; domain = d.domain; seats = d.seats; number = number; seen = [] }

  -- all seats of the desk, in order, with no swap made
  pub record AreNewSeats (d : DeskView) (seats : List (SeatView T)) : Type 0 where
    pub count : length seats ≡ d.seats
    pub each : (k : ℕ) (v : SeatView T) → k < length seats → slice_index_or seats k v ≡ new_seat d k

  -- the seat makes one swap, which finds what then lies on the desk. `before` are the swaps up to it: all that the seat had seen, and later ones of other seats
  pub record Swaps (v : SeatView T) (left found : Option T) (w : SeatView T) : Type 0 where
    pub same : w ≡ record v { seen = w.seen }
    pub before : List (Swap T)
    pub since : IsBeginning v.seen before
    pub own : swaps_of v.number before ≡ swaps_of v.number v.seen
    pub answers : found ≡ lies_behind before
    pub seen : w.seen ≡ before ++ record { by = v.number; left = left; found = found } ∷ []
    pub in_turn : AreInTurn w.seen
    pub makers : All (λ s. s.by < w.seats) w.seen

  -- seats of this desk, each number among them
  pub record AreAllSeats (d : DeskView) (seats : List (SeatView T)) : Type 0 where
    pub of_desk : All (λ v. v.desk ≡ d.desk) seats
    pub each : (number : ℕ) → number < d.seats → Contains (map (λ v. v.number) seats) number

  -- all swaps that there ever were: each seat has seen a beginning of them with all of its own, and the last one's value comes out
  pub record Closes (d : DeskView) (seats : List (SeatView T)) (result : Option T) : Type 0 where
    pub swaps : List (Swap T)
    pub in_turn : AreInTurn swaps
    pub makers : All (λ s. s.by < d.seats) swaps
    pub seen : All (λ v. IsBeginning v.seen swaps × (swaps_of v.number swaps ≡ swaps_of v.number v.seen)) seats
    pub answers : result ≡ lies_behind swaps

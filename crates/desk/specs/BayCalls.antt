-- What the calls of a bay and of its seats do.
use Rattle.std.specs.Prelude.{◌≡◌, ◌≢◌, ℕ, ◌<◌, Bool, true, List, [], ◌∷◌, ◌++◌, length, slice_index_or, Option, Some, None, IfSome}
use Rattle.atomic_table.specs.Seated.{TableId}
use Rattle.desk.specs.Swaps.{Swap, lies_after, swaps_of, IsBeginning}
use Rattle.desk.specs.Holding.{holds_behind, IsLegal}
use Rattle.desk.specs.BayViews.{BayView, BaySeatView}

module _ {T : Type 0} where
  -- whether the seat holds: it took what lay there, and has put nothing back since
  abbrev pub holds : BaySeatView T → Bool
  holds v = holds_behind v.number v.seen

  -- what lies in the bay behind the swaps that the seat has seen
  abbrev pub lies : BaySeatView T → Option T
  lies v = lies_after v.first v.seen

  -- the value is like the one that lay there first
  abbrev pub IsLikeFirst : (T → T → Type 0) → BaySeatView T → T → Type 0
  IsLikeFirst like v x = IfSome v.first (λ y. like y x)

  -- the seat is one of the bay's, something lay there first, and what it has seen are legal swaps
  pub record HasSeenLegal (v : BaySeatView T) : Type 0 where
    pub there : v.number < v.seats
    pub value : T
    pub lay : v.first ≡ Some value
    pub legal : IsLegal v.seats v.first v.seen

  -- the seat makes one swap, which finds what then lies there. `before` are the swaps up to it: all that the seat had seen, and later ones of other seats
  pub record MakesSwap (v : BaySeatView T) (left found : Option T) (w : BaySeatView T) : Type 0 where
    pub same : w ≡ record v { seen = w.seen }
    pub before : List (Swap T)
    pub since : IsBeginning v.seen before
    pub own : swaps_of v.number before ≡ swaps_of v.number v.seen
    pub finds : found ≡ lies_after v.first before
    pub seen : w.seen ≡ before ++ record { by = v.number; left = left; found = found } ∷ []
    pub history : HasSeenLegal w

  -- another seat of the bay holds
  pub record IsHeldElsewhere (v : BaySeatView T) : Type 0 where
    pub holder : ℕ
    pub there : holder < v.seats
    pub other : holder ≢ v.number
    pub holding : holds_behind holder v.seen ≡ true

  -- one swap found nothing, as another seat holds
  pub record FindsNothing (v w : BaySeatView T) : Type 0 where
    pub swap : MakesSwap v None None w
    pub elsewhere : IsHeldElsewhere w

  -- Ties

  -- one load by the seat, after which it has seen all that was swapped until then, and so what another had seen
  pub record Covers (v : BaySeatView T) (other : List (Swap T)) (w : BaySeatView T) : Type 0 where
    pub same : w ≡ record v { seen = w.seen }
    pub since : IsBeginning v.seen w.seen
    pub own : swaps_of v.number w.seen ≡ swaps_of v.number v.seen
    pub covers : IsBeginning other w.seen
    pub holding : holds w ≡ holds v
    pub history : HasSeenLegal w

  -- one load by the seat, after which it has seen just these swaps
  pub record Accepts (v : BaySeatView T) (all : List (Swap T)) (w : BaySeatView T) : Type 0 where
    pub is : w ≡ record v { seen = all }
    pub since : IsBeginning v.seen all
    pub own : swaps_of v.number all ≡ swaps_of v.number v.seen
    pub holding : holds w ≡ holds v
    pub history : HasSeenLegal w

  -- a load by each. Both have then seen one list of swaps, which covers what each had seen, and in which each has just its own swaps
  pub record Ties (v o v' o' : BaySeatView T) : Type 0 where
    pub first : Covers v o.seen v'
    pub second : Accepts o v'.seen o'

  -- Making

  -- a bay of this domain with so many seats, where this lies
  abbrev pub IsNewBay : TableId → ℕ → T → BayView T → Type 0
  IsNewBay domain seats value b = b ≡ record { bay = b.bay; domain = domain; seats = seats; first = value }

  abbrev pub new_bay_seat : BayView T → ℕ → BaySeatView T
  new_bay_seat b number = record { bay = b.bay; domain = b.domain; seats = b.seats; number = number; first = Some b.first; seen = [] }

  -- all seats of the bay, in order, with no swap made
  pub record AreNewBaySeats (b : BayView T) (seats : List (BaySeatView T)) : Type 0 where
    pub count : length seats ≡ b.seats
    pub each : (k : ℕ) (v : BaySeatView T) → k < length seats → slice_index_or seats k v ≡ new_bay_seat b k

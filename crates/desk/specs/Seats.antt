-- What the steps do to the table's seats that they are made with.
use Rattle.std.specs.Prelude.{◌≡◌, ◌≢◌, ℕ, ◌<◌, [], ◌∷◌, List, slice_index, Option, None}
use Rattle.std.specs.Mem.Slots.{slots_items, slots_len, IsFull}
use mathlib.Core.Option.{some}
use lib.ListN.{get_elem?}
use Rattle.atomic_table.specs.Seated.{TableId}
use Rattle.atomic_table.specs.declared.shared.Seat.{Seat}
use Rattle.atomic_table.specs.declared.owned.Closed.{Closed}
use Rattle.desk.specs.Swaps.{Account}
use Rattle.desk.specs.declared.view.Plan.{Plan}
use Rattle.desk.specs.declared.view.Role.TheVariants.{Dealer, Sits, Gathers}
use Rattle.desk.specs.declared.view.View.{View}
use Rattle.desk.specs.Views.{SeatView}
use Rattle.desk.specs.Calls.{new_seat}
use Rattle.desk.specs.Rule.{founder, number_of}
use Rattle.desk.specs.Plays.{as_seat}

abbrev pub Place : Type 0 → Type 0
Place T = Seat (Option T) (View T)

module _ {T : Type 0} where
  -- it is a desk's seat, and holds this slot, which is empty
  abbrev pub HoldsEmpty : ℕ → Place T → Type 0
  HoldsEmpty slot seat = seat.me ≡ (record seat.me.0 { role = Sits (number_of seat.me.0.role) slot }, (slot, None) ∷ [])

  abbrev pub shown : Place T → SeatView T
  shown seat = as_seat seat.table_id seat.me.0

  -- it stands for the desk's seats from k on
  pub record IsFounder (plan : Plan) (table : TableId) (k : ℕ) (seat : Place T) : Type 0 where
    pub wide : table.words ≡ 1
    pub seated : seat.table_id ≡ table
    pub me : seat.me ≡ (record (founder plan) { role = Dealer k }, [])

  abbrev pub IsDealt : Plan → TableId → ℕ → SeatView T → Type 0
  IsDealt plan table number v = v ≡ new_seat record { desk = table; domain = plan.home; seats = plan.seats } number

  -- it takes in the desk's seats, and has these accounts of them
  pub record IsGathering (table : TableId) (over : List (Account T)) (seat : Place T) : Type 0 where
    pub wide : table.words ≡ 1
    pub seated : seat.table_id ≡ table
    pub me : seat.me ≡ (record seat.me.0 { role = Gathers over }, [])

  abbrev pub account : SeatView T → Account T
  account v = record { by = v.number; seen = v.seen }

  -- one more seat of the desk is over
  abbrev pub IsBack : TableId → Place T → SeatView T → Place T → Type 0
  IsBack table keeper v keeper' = (over : List (Account T)) → IsGathering table over keeper → IsGathering table (account v ∷ over) keeper'

  -- Only what lies on the desk is left

  abbrev pub desk_of : {A : Type 0} → Closed (Option T) A → ℕ
  desk_of closed = slice_index (slots_items closed.words) 0

  pub record LiesAlone {A : Type 0} (closed : Closed (Option T) A) : Type 0 where
    pub one : slots_len closed.words ≡ 1
    pub words : IsFull closed.words
    pub slots : IsFull closed.slots
    pub there : desk_of closed < slots_len closed.slots
    pub others : (k : ℕ) → k < slots_len closed.slots → k ≢ desk_of closed → get_elem? (slots_items closed.slots) k ≡ some None

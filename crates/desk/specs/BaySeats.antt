-- What the steps do to the table's seats that they are made with.
use Rattle.std.specs.Prelude.{◌≡◌, ℕ, Bool, true, false, List, [], ◌∷◌, Option, None}
use Rattle.atomic_table.specs.Seated.{TableId}
use Rattle.atomic_table.specs.declared.shared.Seat.{Seat}
use Rattle.desk.specs.declared.bay.view.Plan.{Plan}
use Rattle.annals.specs.declared.view.Role.TheVariants.{Dealer, Sits}
use Rattle.annals.specs.Rule.{number_of}
use Rattle.desk.specs.BayViews.{BaySeatView}
use Rattle.desk.specs.BayCalls.{holds, new_bay_seat}
use Rattle.desk.specs.BayRule.{View, founder}
use Rattle.desk.specs.BayPlays.{as_bay_seat}

abbrev pub Place : Type 0 → Type 0
Place T = Seat (Option T) (View T)

module _ {T : Type 0} where
  abbrev pub shown : Place T → BaySeatView T
  shown seat = as_bay_seat seat.table_id seat.me.0

  -- the slot of a seat that holds is empty
  abbrev pub emptied : Bool → List (ℕ × Option T)
  emptied true = (0, None) ∷ []
  emptied false = []

  -- a bay's seat between two calls: nothing is told, and the slot is with it while it holds
  abbrev pub IsAtBay : Place T → Type 0
  IsAtBay seat = seat.me ≡ (record seat.me.0 { role = Sits (number_of seat.me.0.role); told = [] }, emptied (holds (shown seat)))

  -- it stands for the bay's seats from k on
  pub record IsFounder (plan : Plan T) (table : TableId) (k : ℕ) (seat : Place T) : Type 0 where
    pub wide : table.words ≡ 1
    pub seated : seat.table_id ≡ table
    pub me : seat.me ≡ (record (founder plan) { role = Dealer k }, [])

  abbrev pub IsDealt : Plan T → TableId → ℕ → BaySeatView T → Type 0
  IsDealt plan table number v = v ≡ new_bay_seat record { bay = table; domain = plan.home; seats = plan.seats; first = plan.first.value } number

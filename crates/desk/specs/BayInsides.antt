-- How the fields of a bay and of its seats are seen, and what is always true of them.
use Rattle.std.specs.Prelude.{◌≡◌}
use Rattle.desk.specs.declared.bay.Bay.TheInside as bay
use Rattle.desk.specs.declared.bay.seat.BaySeat.TheInside as seat
use Rattle.desk.specs.BayViews.{BayView, BaySeatView}
use Rattle.desk.specs.BaySeats.{IsAtBay, shown}

abbrev pub view_of_bay : {T A : Type 0} → bay.Inside T A → BayView T
view_of_bay b = record { bay = b.table.shared.table_id; domain = b.table.shared.key.home; seats = b.table.shared.key.seats; first = b.table.shared.key.first.value }

abbrev pub IsBay : {T A : Type 0} → bay.Inside T A → Type 0
IsBay b = b.table.shared.table_id.words ≡ 1

abbrev pub view_of_bay_seat : {T : Type 0} → seat.Inside T → BaySeatView T
view_of_bay_seat s = shown s.seat

abbrev pub IsBaySeat : {T : Type 0} → seat.Inside T → Type 0
IsBaySeat s = IsAtBay s.seat

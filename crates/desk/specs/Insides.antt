-- How the fields of a desk and of its seats are seen, and what is always true of them.
use Rattle.std.specs.Prelude.{◌≡◌}
use Rattle.desk.specs.declared.desk.Desk.TheInside as desk
use Rattle.desk.specs.declared.seat.DeskSeat.TheInside as seat
use Rattle.desk.specs.Views.{DeskView, SeatView}
use Rattle.desk.specs.Seats.{HoldsEmpty, shown}

abbrev pub view_of_desk : {T A : Type 0} → desk.Inside T A → DeskView
view_of_desk d = record { desk = d.table.shared.table_id; domain = d.table.shared.key.home; seats = d.table.shared.key.seats }

abbrev pub IsDesk : {T A : Type 0} → desk.Inside T A → Type 0
IsDesk d = d.table.shared.table_id.words ≡ 1

abbrev pub view_of_seat : {T : Type 0} → seat.Inside T → SeatView T
view_of_seat s = shown s.seat

abbrev pub IsSeat : {T : Type 0} → seat.Inside T → Type 0
IsSeat s = HoldsEmpty s.slot s.seat

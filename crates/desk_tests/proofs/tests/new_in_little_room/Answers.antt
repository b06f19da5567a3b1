use Rattle.desk.proofs.Seating.{new_seats}
use Rattle.desk_tests.proofs.tests.new_in_little_room.Goals as goal

pub close-nothing-requires : goal.close-nothing-requires
close-nothing-requires g c = record { seats = new_seats _ _ c.in-Ok.ensures.seats }

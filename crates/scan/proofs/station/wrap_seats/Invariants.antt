-- What was taken out is wrapped, the last one first.
use Rattle.std.proofs.Common.{◌≡◌, ◌+◌, ◌++◌, reverse}
use Rattle.std.specs.Vec.{vec_len, vec_capacity}
use Rattle.scan.proofs.station.wrap_seats.Given as goal

abbrev pub invariant-loop-seat : goal.invariant-loop-seat
invariant-loop-seat g l = record {
  wrapped : l.seats.items ++ reverse l.all.items ≡ l.fn.seats.items;
  long : vec_len l.all + vec_len l.seats ≡ vec_len l.fn.seats;
  room : vec_capacity l.all ≡ vec_len l.fn.seats;
}

abbrev pub decreases-loop-seat : goal.decreases-loop-seat
decreases-loop-seat g l = vec_len l.seats

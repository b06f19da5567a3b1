-- The processors and seats that are left are new ones, and so are the readers, the last one first.
use Rattle.std.proofs.Common.{◌≡◌, ◌+◌, ◌≤◌}
use Rattle.race.proofs.Words.{vec_len, vec_capacity, new_seat, EachAt, EachCpu, IsNewCpu}
use Rattle.race.proofs.Seating.{IsNext, EachSeat}
use Rattle.race.proofs.making.seat_all.Given as goal

abbrev pub invariant-loop-seat : goal.invariant-loop-seat
invariant-loop-seat l = record {
  cpus : EachCpu (IsNewCpu l.course) l.cpus.items;
  seats : EachSeat (λ k v. v ≡ new_seat l.course.desk k) l.seats.items;
  readers : EachAt (IsNext l.course (vec_len l.fn.seats)) l.readers.items;
  as_many : vec_len l.cpus ≡ vec_len l.seats;
  all : vec_len l.seats + vec_len l.readers ≡ vec_len l.fn.seats;
  room : vec_len l.fn.seats ≤ vec_capacity l.readers;
}

abbrev pub decreases-loop-seat : goal.decreases-loop-seat
decreases-loop-seat l = vec_len l.seats

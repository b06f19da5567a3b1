-- It stays the same processor and its seat.
use Rattle.calls.specs.Calls.{FitsIn}
use Rattle.calls_tests.proofs.tests.rooms.fill.Given as goal

abbrev pub invariant-loop-job : goal.invariant-loop-job
invariant-loop-job g l = record {
  fits : FitsIn l.calls l.cpu l.seat;
}

-- The seat has seen what each of the processors so far has.
use Rattle.std.proofs.Common.{◌≡◌}
use Rattle.domain.proofs.Counted.{CallsSoFar}
use Rattle.domain.proofs.domain.tallies.cover_calls.Given as goal

abbrev pub invariant-loop-other : goal.invariant-loop-other
invariant-loop-other g l = record {
  others : l.others ≡ l.initial.others;
  seat : CallsSoFar l.other-index l.initial.seat l.initial.others l.seat;
}

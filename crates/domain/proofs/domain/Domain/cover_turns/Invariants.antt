-- The seat has seen what each of the processors so far has.
use Rattle.std.proofs.Common.{◌≡◌}
use Rattle.domain.proofs.Covering.{TurnSoFar}
use Rattle.domain.proofs.domain.Domain.cover_turns.Given as goal

abbrev pub invariant-loop-other : goal.invariant-loop-other
invariant-loop-other g l = record {
  others : l.others ≡ l.initial.others;
  turn : TurnSoFar l.other-index l.initial.turn l.initial.others l.turn;
}

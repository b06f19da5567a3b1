-- The engine and the seats have seen what each of the processors so far has.
use Rattle.std.proofs.Common.{◌≡◌}
use Rattle.scan.specs.Progress.{with_seat}
use Rattle.domain.proofs.Covering.{EngineSoFar, NeedsSoFar, TurnSoFar}
use Rattle.domain.proofs.domain.Domain.cover_all.Given as goal

abbrev pub invariant-loop-other : goal.invariant-loop-other
invariant-loop-other g l = record {
  others : l.others ≡ l.initial.others;
  engine : EngineSoFar l.other-index l.initial.engine.seat l.initial.others l.engine.seat;
  rest : l.engine ≡ with_seat l.engine.seat l.initial.engine;
  needs : NeedsSoFar l.other-index l.initial.needs l.initial.others l.needs;
  turn : TurnSoFar l.other-index l.initial.turn l.initial.others l.turn;
}

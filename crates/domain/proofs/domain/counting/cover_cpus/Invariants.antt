-- The engine has seen what each of the processors so far has.
use Rattle.std.proofs.Common.{◌≡◌}
use Rattle.scan.specs.Progress.{with_seat}
use Rattle.domain.proofs.Covering.{EngineSoFar}
use Rattle.domain.proofs.domain.counting.cover_cpus.Given as goal

abbrev pub invariant-loop-other : goal.invariant-loop-other
invariant-loop-other g l = record {
  others : l.others ≡ l.initial.others;
  engine : EngineSoFar l.other-index l.initial.engine.seat l.initial.others l.engine.seat;
  rest : l.engine ≡ with_seat l.engine.seat l.initial.engine;
}

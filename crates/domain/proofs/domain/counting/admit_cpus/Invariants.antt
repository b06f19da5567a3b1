-- The engine stays as it is, and the processors so far have seen just what it has.
use Rattle.std.proofs.Common.{◌≡◌}
use Rattle.domain.specs.Counts.{IsJoined}
use Rattle.domain.proofs.Rows.{Goes}
use Rattle.domain.proofs.domain.counting.admit_cpus.Given as goal

abbrev pub invariant-loop-other : goal.invariant-loop-other
invariant-loop-other g l = record {
  engine : l.engine ≡ l.initial.engine;
  goes : Goes (IsJoined l.initial.engine.seat) l.other-index l.initial.others l.others;
}

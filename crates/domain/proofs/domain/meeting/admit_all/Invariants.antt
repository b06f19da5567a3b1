-- The engine and the seat stay as they are, and the processors so far are admitted.
use Rattle.std.proofs.Common.{◌≡◌}
use Rattle.domain.specs.Parts.{IsAdmitted}
use Rattle.domain.proofs.Rows.{Goes}
use Rattle.domain.proofs.domain.meeting.admit_all.Given as goal

abbrev pub invariant-loop-other : goal.invariant-loop-other
invariant-loop-other g l = record {
  engine : l.engine ≡ l.initial.engine;
  needs : l.needs ≡ l.initial.needs;
  goes : Goes (IsAdmitted l.initial.engine.seat l.initial.needs) l.other-index l.initial.others l.others;
}

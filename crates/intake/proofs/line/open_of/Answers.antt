use Rattle.intake.proofs.Keeping.{begins}
use Rattle.intake.proofs.line.open_of.Goals as goal

pub with_rule-requires : goal.with_rule-requires
with_rule-requires g c = begins _

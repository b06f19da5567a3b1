use Rattle.intake.proofs.Keeping.{parts}
use Rattle.intake.proofs.line.part.Goals as goal

pub another-requires-clause-rule : goal.another-requires-clause-rule
another-requires-clause-rule g c = parts _ _ _ _ c.requires.pass.1

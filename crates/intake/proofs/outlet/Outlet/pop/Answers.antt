use Rattle.intake.proofs.Keeping.{takes, empties}
use Rattle.intake.proofs.outlet.Outlet.pop.Goals as goal

pub pop_as-requires-clause-rule : goal.pop_as-requires-clause-rule
pop_as-requires-clause-rule g c = (takes _ _ _ _ c.self.invariant.role, empties _ _ _)

-- Replacing opens no section.
use Rattle.srcu.proofs.Keeping.{none_replaced}
use Rattle.srcu.proofs.worker.Worker.replace.Goals as goal

pub invariant_of-self : goal.invariant_of-self
invariant_of-self g c = record { here = c.replace.ensures.here; closed = none_replaced _ _ _ _ _ c.replace.result c.replace.ensures.replaces c.self.invariant.closed }

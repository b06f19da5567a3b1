-- Changing a table opens no section.
use Rattle.srcu.proofs.Keeping.{none_removed}
use Rattle.srcu.proofs.worker.Worker.remove.Goals as goal

pub invariant_of-self : goal.invariant_of-self
invariant_of-self g c = record { here = c.remove.ensures.here; closed = none_removed _ _ _ _ _ c.remove.result c.remove.ensures.removes c.self.invariant.closed }

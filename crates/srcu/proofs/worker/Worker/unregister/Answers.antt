-- Changing a chain opens no section.
use Rattle.srcu.proofs.Keeping.{none_unregistered}
use Rattle.srcu.proofs.worker.Worker.unregister.Goals as goal

pub invariant_of-self : goal.invariant_of-self
invariant_of-self g c = record { here = c.unregister.ensures.here; closed = none_unregistered _ _ _ _ _ c.unregister.result c.unregister.ensures.unregisters c.self.invariant.closed }

-- Changing a chain opens no section.
use Rattle.srcu.proofs.Keeping.{none_registered}
use Rattle.srcu.proofs.worker.Worker.register.Goals as goal

pub invariant_of-self : goal.invariant_of-self
invariant_of-self g c = record { here = c.register.ensures.here; closed = none_registered _ _ _ _ _ c.register.result c.register.ensures.registers c.self.invariant.closed }

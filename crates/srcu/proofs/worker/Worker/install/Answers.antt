-- Changing a table opens no section.
use Rattle.srcu.proofs.Keeping.{none_installed}
use Rattle.srcu.proofs.worker.Worker.install.Goals as goal

pub invariant_of-self : goal.invariant_of-self
invariant_of-self g c = record { here = c.install.ensures.here; closed = none_installed _ _ _ _ _ _ c.install.result c.install.ensures.installs c.self.invariant.closed }

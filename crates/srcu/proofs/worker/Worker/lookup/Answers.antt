-- Its section is closed again.
use Rattle.srcu.proofs.Keeping.{idle_looked_up}
use Rattle.srcu.proofs.worker.Worker.lookup.Goals as goal

pub invariant_of-self : goal.invariant_of-self
invariant_of-self g c = idle_looked_up _ _ _ _ _ c.lookup.result c.self.invariant c.lookup.ensures.stays c.lookup.ensures.looks_up

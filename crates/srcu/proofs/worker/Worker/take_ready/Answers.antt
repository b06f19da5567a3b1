-- Taking out what is ready opens no section.
use Rattle.srcu.proofs.Keeping.{idle_taken}
use Rattle.srcu.proofs.worker.Worker.take_ready.Goals as goal

pub invariant_of-self : goal.invariant_of-self
invariant_of-self g c = idle_taken _ _ _ _ _ c.take_ready.result c.self.invariant c.take_ready.ensures.acts

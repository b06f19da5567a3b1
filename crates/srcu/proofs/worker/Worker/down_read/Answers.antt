-- A held section is no reading, and of the processor's domain.
use Rattle.srcu.proofs.Keeping.{idle_downed, downed_here}
use Rattle.srcu.proofs.worker.Worker.down_read.Goals as goal

pub invariant_of-self : goal.invariant_of-self
invariant_of-self g c = idle_downed _ _ _ c.down_read.result c.self.invariant c.down_read.ensures.stays c.down_read.ensures.downs

pub returns-clause-here : goal.returns-clause-here
returns-clause-here g c = rw (← c.self.view_is) (downed_here _ c.self.inside.cpu c.down_read.new.self c.down_read.result c.self.invariant c.down_read.ensures.downs)

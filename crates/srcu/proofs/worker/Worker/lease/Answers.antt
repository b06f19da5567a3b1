-- A held section is no reading, and of the processor's domain.
use Rattle.srcu.proofs.Keeping.{idle_leased, leased_here}
use Rattle.srcu.proofs.worker.Worker.lease.Goals as goal

pub invariant_of-self : goal.invariant_of-self
invariant_of-self g c = idle_leased _ _ _ _ c.lease.result c.self.invariant c.lease.ensures.stays c.lease.ensures.leases

pub returns-clause-here : goal.returns-clause-here
returns-clause-here g c = rw (← c.self.view_is) (leased_here _ _ _ _ c.lease.result c.self.invariant c.lease.ensures.leases)

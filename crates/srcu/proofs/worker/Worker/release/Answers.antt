-- The end of a section opens none.
use Rattle.plugs.proofs.CallerLemmas.{none_released}
use Rattle.srcu.proofs.worker.Worker.release.Goals as goal

pub invariant_of-self : goal.invariant_of-self
invariant_of-self g c = record { here = c.release.ensures.stays _ c.self.invariant.here; closed = none_released c.args.lease.held c.self.inside.cpu c.release.new.cpu c.release.ensures.ends c.self.invariant.closed }

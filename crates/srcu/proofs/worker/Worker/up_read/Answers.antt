-- The end of a section opens none.
use Rattle.domain.proofs.CallerLemmas.{none_ended}
use Rattle.srcu.proofs.worker.Worker.up_read.Goals as goal

pub invariant_of-self : goal.invariant_of-self
invariant_of-self g c = record { here = c.up_read.ensures.stays _ c.self.invariant.here; closed = none_ended c.args.held c.self.inside.cpu c.up_read.new.self c.up_read.ensures.ends c.self.invariant.closed }

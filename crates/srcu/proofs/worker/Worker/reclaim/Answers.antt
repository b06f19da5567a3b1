-- Asking after cookies opens no section.
use Rattle.srcu.proofs.Boxing.{none_reclaimed}
use Rattle.srcu.proofs.worker.Worker.reclaim.Goals as goal

pub invariant_of-self : goal.invariant_of-self
invariant_of-self g c = record { here = c.reclaim.ensures.stays _ c.self.invariant.here; closed = none_reclaimed c.args.writer.now c.reclaim.new.self c.self.inside.cpu c.reclaim.new.cpu c.reclaim.result c.reclaim.ensures.back c.self.invariant.closed }

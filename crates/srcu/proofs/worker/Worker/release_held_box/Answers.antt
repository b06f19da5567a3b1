-- A part that is paid opens no section.
use Rattle.srcu.proofs.Boxing.{none_paid}
use Rattle.srcu.proofs.worker.Worker.release_held_box.Goals as goal

pub invariant_of-self : goal.invariant_of-self
invariant_of-self g c = record { here = c.release.ensures.stays _ c.self.invariant.here; closed = none_paid c.args.pin.section c.args.pin.found c.self.inside.cpu c.release.new.cpu c.release.ensures.catches c.self.invariant.closed }

-- Its section is closed again.
use Rattle.srcu.proofs.Boxing.{none_shown}
use Rattle.srcu.proofs.worker.Worker.show.Goals as goal

pub invariant_of-self : goal.invariant_of-self
invariant_of-self g c = record { here = c.read.ensures.stays _ c.self.invariant.here; closed = none_shown _ _ _ c.self.inside.cpu c.read.new.cpu c.read.result c.read.ensures.shows c.self.invariant.closed }

pub returns-clause-shows : goal.returns-clause-shows
returns-clause-shows g c = rw (← c.self.view_is) c.read.ensures.shows

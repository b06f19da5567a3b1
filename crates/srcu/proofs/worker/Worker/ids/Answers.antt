-- Its section is closed again.
use Rattle.notify.proofs.CallerLemmas.{none_called}
use Rattle.srcu.proofs.worker.Worker.ids.Goals as goal

pub invariant_of-self-2 : goal.invariant_of-self-2
invariant_of-self-2 g c = record { here = c.in_ok-ids.ensures.stays _ c.self.invariant.here; closed = none_called c.self.inside.cpu c.ids.new.cpu c.in_ok-ids.ensures.lists.reads c.self.invariant.closed }

-- Its section is closed again.
use Rattle.notify.proofs.CallerLemmas.{none_called}
use Rattle.srcu.proofs.worker.Worker.call_chain.Goals as goal

pub invariant_of-self-2 : goal.invariant_of-self-2
invariant_of-self-2 g c = record { here = c.in_ok-last.ensures.stays _ c.self.invariant.here; closed = none_called c.self.inside.cpu c.call_chain.new.cpu c.in_ok-last.ensures.calls.reads c.self.invariant.closed }

-- A call opens no reading, whether the job was queued or came back.
use Rattle.domain.proofs.CallerLemmas.{none_queued}
use Rattle.srcu.proofs.worker.Worker.call.Goals as goal

pub invariant_of-self : goal.invariant_of-self
invariant_of-self g c = record { here = c.call.ensures.here; closed = none_queued _ _ _ _ c.call.result c.self.invariant.closed c.call.ensures.calls }

-- Queueing opens no reading.
use Rattle.srcubench.proofs.Passes.{queues_none}
use Rattle.srcubench.proofs.calling.pass_all.Goals as goal

pub synchronize-requires-clause-none : goal.synchronize-requires-clause-none
synchronize-requires-clause-none g c = queues_none _ _ _ _ c.in_ok-queue_all.ensures.queues c.requires.none

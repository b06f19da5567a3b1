-- A call leaves the processor in its domain, and opens no section, refused or not.
use Rattle.domain.proofs.Queueing.{none_queued}
use Rattle.domain_threads_tests.proofs.tests.barriers.queue.Goals as goal

pub returns : goal.returns
returns g c = (c.call.ensures.here, none_queued _ _ _ _ _ c.requires.1 c.call.ensures.calls)

-- A receipt is one of the domain's at which its job was queued.
use Rattle.domain.proofs.Queueing.{queued_here}
use Rattle.domain_threads_tests.proofs.tests.barriers.queue_and_hear.Goals as goal

pub hear-requires : goal.hear-requires
hear-requires g c = record { domain = c.requires.other; receipt = queued_here _ _ _ _ _ c.requires.cpu c.in-Ok.ensures.calls }

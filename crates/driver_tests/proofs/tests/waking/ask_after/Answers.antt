-- A call opens no reading, whether the job was queued or came back.
use Rattle.domain.proofs.CallerLemmas.{none_queued}
use Rattle.driver_tests.proofs.tests.waking.ask_after.Goals as goal

pub returns-then-is_ok : goal.returns-then-is_ok
returns-then-is_ok g c = record { here = c.call.ensures.here; closed = none_queued _ _ _ _ c.call.result c.requires.closed c.call.ensures.calls }

pub returns-else-is_ok : goal.returns-else-is_ok
returns-else-is_ok g c = record { here = c.call.ensures.here; closed = none_queued _ _ _ _ c.call.result c.requires.closed c.call.ensures.calls }

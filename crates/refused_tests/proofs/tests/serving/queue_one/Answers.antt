-- A call opens no reading, whether the job was queued or came back.
use Rattle.domain.proofs.CallerLemmas.{none_queued}
use Rattle.refused_tests.proofs.tests.serving.queue_one.Goals as goal
use Rattle.refused_tests.proofs.tests.serving.queue_one.Goals.{in-Ok, in-Err+in-Ok-1, in-Err+in-Err-1}

pub returns-clause-idle : goal.returns-clause-idle
returns-clause-idle g c =
    let first = none_queued _ _ _ _ c.call.result c.requires.closed c.call.ensures.calls in
    elim c.match-call.branch [
      | in-Ok w ↦ rw w.cpu-is (record { here = c.call.ensures.here; closed = first })
      | in-Err+in-Ok-1 w ↦ rw w.cpu-is (record { here = w.call-in-Err.ensures.here; closed = none_queued _ _ _ _ w.call-in-Err.result first w.call-in-Err.ensures.calls })
      | in-Err+in-Err-1 w ↦ rw w.cpu-is (record { here = w.call-in-Err.ensures.here; closed = none_queued _ _ _ _ w.call-in-Err.result first w.call-in-Err.ensures.calls })
    ]

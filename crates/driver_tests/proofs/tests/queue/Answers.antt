-- A call opens no reading, whether the job was queued or came back.
use Rattle.std.proofs.Common.{refl, ◌∙◌}
use Rattle.domain.proofs.CallerLemmas.{none_queued}
use Rattle.driver_tests.proofs.tests.queue.Goals as goal

pub loop-job-init : goal.loop-job-init
loop-job-init g c = record { idle = c.requires; same = refl }

pub call-requires : goal.call-requires
call-requires g c = c.loop-job.invariant.idle.here

pub loop-job-preserved : goal.loop-job-preserved
loop-job-preserved g c = record {
  idle = record { here = c.call.ensures.here; closed = none_queued _ _ _ _ c.call.result c.loop-job.invariant.idle.closed c.call.ensures.calls };
  same = c.call.ensures.same.cpu.3 ∙ c.loop-job.invariant.same;
}

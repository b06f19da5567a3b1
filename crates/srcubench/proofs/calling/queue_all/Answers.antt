-- One more.
use Rattle.std.proofs.Common.{refl}
use Rattle.srcubench.proofs.Passes.{one_job}
use Rattle.srcubench.proofs.calling.queue_all.Goals as goal

pub loop-job-init : goal.loop-job-init
loop-job-init g c = record { queues = refl; here = c.requires }

pub call-requires : goal.call-requires
call-requires g c = c.loop-job.invariant.here

pub loop-job-preserved : goal.loop-job-preserved
loop-job-preserved g c = record {
  queues = one_job _ _ _ _ _ _ c.loop-job.invariant.queues c.in_default.ensures.calls;
  here = c.call.ensures.here;
}

pub returns-in-Err-clause-here : goal.returns-in-Err-clause-here
returns-in-Err-clause-here g c = c.call.ensures.here

pub returns-clause-here : goal.returns-clause-here
returns-clause-here g c = c.loop-job.invariant.here

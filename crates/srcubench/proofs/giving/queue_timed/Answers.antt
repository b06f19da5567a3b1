-- Where there was no error, each processor queued all of its jobs.
use Rattle.std.proofs.Common.{ℕ, List, All, Result, IsOk, subst}
use Rattle.domain.specs.Views.{CpuView}
use Rattle.srcubench.specs.declared.calling.JobError.{JobError}
use Rattle.srcubench.specs.Calling.{QueuesAll}
use Rattle.srcubench.proofs.Passes.{each_became}
use Rattle.srcubench.proofs.giving.queue_timed.Goals as goal

pub returns : goal.returns
returns g c =
    let none = subst (λ (l : List (Result (CpuView ℕ) JobError)). All IsOk l) c.as_slice.ensures.value c.in_ok-first_error.ensures in
    each_became (QueuesAll c.args.domain.now c.args.jobs) c.args.cpus.items c.in-Ok.outcomes.items c.in-Ok.ensures none

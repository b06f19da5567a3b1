-- Each processor was a new one.
use Rattle.std.proofs.Common.{ℕ, List, All, Result, IsOk, subst}
use Rattle.domain.specs.Views.{CpuView}
use Rattle.srcubench.specs.declared.calling.JobError.{JobError}
use Rattle.srcubench.specs.Calling.{QueuesAll}
use Rattle.srcubench.proofs.Passes.{on_each}
use Rattle.srcubench.proofs.callbacks.run_queueing.Goals as goal

pub returns-clause-queued : goal.returns-clause-queued
returns-clause-queued g c =
    let none = subst (λ (l : List (Result (CpuView ℕ) JobError)). All IsOk l) c.as_slice.ensures.value c.in_ok-first_error.ensures in
    on_each (λ d. QueuesAll d c.args.jobs) _ _ _ _ c.in_ok-domain.ensures.made c.in_ok-outcomes.ensures none

-- Each processor was a new one.
use Rattle.std.proofs.Common.{ℕ, List, All, Result, IsOk, subst}
use Rattle.domain.specs.Views.{CpuView}
use Rattle.srcubench.specs.declared.calling.JobError.{JobError}
use Rattle.srcubench.specs.Calling.{PassesAll}
use Rattle.srcubench.proofs.Passes.{all_ready, on_each}
use Rattle.srcubench.proofs.callbacks.run_passing.Goals as goal

pub pass_together-requires-clause-cpus : goal.pass_together-requires-clause-cpus
pass_together-requires-clause-cpus g c κs within = all_ready _ _ c.in_ok-domain.ensures.made c.in_ok-domain.ensures.all

pub returns-clause-passed : goal.returns-clause-passed
returns-clause-passed g c =
    let none = subst (λ (l : List (Result (CpuView ℕ) JobError)). All IsOk l) c.as_slice.ensures.value c.in_ok-first_error.ensures in
    on_each (λ d. PassesAll d c.args.jobs) _ _ _ _ c.in_ok-domain.ensures.made c.in_ok-outcomes.ensures none

-- Each processor was a new one.
use Rattle.std.proofs.Common.{List, All, Result, IsOk, subst}
use Rattle.scan.specs.declared.progress.PeriodsExhausted.{PeriodsExhausted}
use Rattle.domain.specs.Views.{CpuView}
use Rattle.srcubench.specs.Driving.{WaitsAll}
use Rattle.srcubench.proofs.Passes.{all_ready, on_each}
use Rattle.srcubench.proofs.waiting.run.Goals as goal

pub wait_together-requires : goal.wait_together-requires
wait_together-requires g c = (c.type_bounds.sync-R, all_ready _ _ c.in_ok-domain.ensures.made c.in_ok-domain.ensures.all)

pub returns-clause-waited : goal.returns-clause-waited
returns-clause-waited g c =
    let none = subst (λ (l : List (Result (CpuView (Unit {0})) PeriodsExhausted)). All IsOk l) c.as_slice.ensures.value c.in_ok-first_error.ensures in
    on_each {J = Unit {0}} (λ d. WaitsAll c.args.times) _ _ _ _ c.in_ok-domain.ensures.made c.in_ok-outcomes.ensures none

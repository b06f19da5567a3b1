-- Each processor called the chain, where there was no error.
use Rattle.std.proofs.Common.{List, All, Result, IsOk, subst}
use Rattle.domain.specs.Views.{CpuView}
use Rattle.srcubench.specs.declared.miss.Miss.{Miss}
use Rattle.srcubench.specs.Chaining.{CallsOften}
use Rattle.srcubench.proofs.Passes.{each_became}
use Rattle.srcubench.proofs.notifying.time_calls.Goals as goal

pub returns-clause-called : goal.returns-clause-called
returns-clause-called g c =
    let none = subst (λ (l : List (Result (CpuView (Unit {0})) Miss)). All IsOk l) c.as_slice.ensures.value c.in_ok-first_error.ensures in
    each_became (CallsOften c.args.blocks c.args.view.now c.args.times) _ _ c.in_ok-outcomes.ensures none

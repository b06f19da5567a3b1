-- The processor was a new one.
use Rattle.std.proofs.lemmas.Result.{IfOk-weaker}
use Rattle.srcubench.proofs.Drives.{was_some, was_last, new_one, of_this, none_open}
use Rattle.srcubench.proofs.driving.run_waits.Goals as goal

pub time_waits-requires-clause-domain : goal.time_waits-requires-clause-domain
time_waits-requires-clause-domain g c =
    let some = was_some _ _ _ _ c.pop.ensures.items c.unwrap-cpu.ensures in
    of_this _ _ _ _ _ c.in_ok-domain.ensures.made some (was_last _ _ _ _ c.pop.ensures.items c.unwrap-cpu.ensures)

pub time_waits-requires-clause-none : goal.time_waits-requires-clause-none
time_waits-requires-clause-none g c =
    let some = was_some _ _ _ _ c.pop.ensures.items c.unwrap-cpu.ensures in
    none_open _ _ _ _ _ c.in_ok-domain.ensures.made some (was_last _ _ _ _ c.pop.ensures.items c.unwrap-cpu.ensures)

pub returns-clause-waited : goal.returns-clause-waited
returns-clause-waited g c =
    let some = was_some _ _ _ _ c.pop.ensures.items c.unwrap-cpu.ensures in
    let new = new_one _ _ _ _ _ c.in_ok-domain.ensures.made some (was_last _ _ _ _ c.pop.ensures.items c.unwrap-cpu.ensures) in
    IfOk-weaker c.time_waits.result _ _ (λ _ waits. record { first = c.unwrap-cpu.result; last = c.time_waits.new.cpu; new = new; waits = waits }) c.time_waits.ensures.waits

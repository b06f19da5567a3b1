-- The processor was a new one.
use Rattle.std.proofs.lemmas.Result.{IfOk-weaker}
use Rattle.srcubench.proofs.Drives.{was_some, was_last, new_one, of_this}
use Rattle.srcubench.proofs.driving.run_periods.Goals as goal

pub time_periods-requires : goal.time_periods-requires
time_periods-requires g c =
    let some = was_some _ _ _ _ c.pop.ensures.items c.unwrap-cpu.ensures in
    of_this _ _ _ _ _ c.in_ok-domain.ensures.made some (was_last _ _ _ _ c.pop.ensures.items c.unwrap-cpu.ensures)

pub returns-clause-driven : goal.returns-clause-driven
returns-clause-driven g c =
    let some = was_some _ _ _ _ c.pop.ensures.items c.unwrap-cpu.ensures in
    let new = new_one _ _ _ _ _ c.in_ok-domain.ensures.made some (was_last _ _ _ _ c.pop.ensures.items c.unwrap-cpu.ensures) in
    IfOk-weaker c.time_periods.result _ _ (λ _ drives. record { first = c.unwrap-cpu.result; last = c.time_periods.new.cpu; new = new; drives = drives }) c.time_periods.ensures.drives

-- The processor was a new one.
use Rattle.std.proofs.Common.{arith}
use Rattle.srcubench.proofs.Drives.{was_some, was_last, of_this}
use Rattle.srcubench.proofs.callbacks.measure_memory.Goals as goal

pub measure_jobs-requires : goal.measure_jobs-requires
measure_jobs-requires g c =
    let some = was_some _ _ _ _ c.pop.ensures.items c.unwrap-cpu.ensures in
    of_this _ _ _ _ _ c.in_ok-domain.ensures.made some (was_last _ _ _ _ c.pop.ensures.items c.unwrap-cpu.ensures)

pub unwrap-cpu-requires : goal.unwrap-cpu-requires
unwrap-cpu-requires g c =
    let count = c.in_ok-domain.ensures.made.count in
    let long = c.in_ok-domain.cpus.ok.0 in
    c.pop.ensures.variant.1 (omega (arith, count, long))

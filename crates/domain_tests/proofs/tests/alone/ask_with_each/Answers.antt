-- All are of the domain in the beginning, and so is each behind its call.
use Rattle.std.proofs.Common.{◌<◌, length, refl, arith}
use Rattle.domain.specs.Views.{CpuView, IsOf}
use Rattle.domain.proofs.Rows.{goes_none, goes_next, item_has}
use Rattle.domain.proofs.Sameness.{all_the_same}
use Rattle.domain_tests.proofs.tests.alone.ask_with_each.Goals as goal

pub loop-cpu-init : goal.loop-cpu-init
loop-cpu-init c = record { goes = goes_none _ _ }

pub ask_and_start-requires : goal.ask_and_start-requires
ask_and_start-requires c =
    let at = c.loop-cpu-test.true in
    let long = c.loop-cpu.auto.cpus in
    item_has _ (λ (z : CpuView _). IsOf c.args.domain.now z) _ _ _ _ c.cpu-item.result c.loop-cpu.invariant.goes (omega (arith, at, long)) refl c.requires.here

pub loop-cpu-preserved : goal.loop-cpu-preserved
loop-cpu-preserved c =
    let at = c.loop-cpu-test.true in
    let long = c.loop-cpu.auto.cpus in
    let inside : c.loop-cpu.cpu-index < length c.loop-cpu.cpus = omega (arith, at, long) in
    record { goes = goes_next _ _ _ _ _ _ c.cpu-item.result c.loop-cpu.invariant.goes inside refl (c.ask_and_start.ensures.same, c.ask_and_start.ensures.here) }

pub returns : goal.returns
returns c =
    let goes = c.loop-cpu.invariant.goes in
    let last = c.loop-cpu-test.false in
    all_the_same _ _ _ goes.count (λ k d lt. (goes.done k d (omega (arith, last, lt))).0) (λ k d lt. (goes.done k d (omega (arith, last, lt))).1) c.requires

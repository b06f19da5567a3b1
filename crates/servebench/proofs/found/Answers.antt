-- The processors of a new domain are idle, and so each that was taken out.
use Rattle.std.proofs.Common.{arith}
use Rattle.std.proofs.lemmas.List.Elements.{All-pop}
use Rattle.domain.specs.Views.{CpuView}
use Rattle.driver.specs.Pools.{IsIdle}
use Rattle.driver.proofs.CallerLemmas.{new_ones_are_idle}
use Rattle.servebench.proofs.found.Goals as goal

pub unwrap-one-requires : goal.unwrap-one-requires
unwrap-one-requires c =
    let count = c.in_ok-domain.ensures.made.count in
    let long = c.in_ok-domain.cpus.ok.0 in
    let most = c.saturating_add.ensures in
    c.pop.ensures.variant.1 (omega (arith, count, long, most))

pub returns-clause-one : goal.returns-clause-one
returns-clause-one c =
    let P : CpuView _ → Type 0 = IsIdle c.in_ok-domain.domain in
    rw c.unwrap-one.ensures at (All-pop P _ _ _ c.pop.ensures.items (new_ones_are_idle _ _ c.in_ok-domain.ensures.made)).1

pub returns-clause-more : goal.returns-clause-more
returns-clause-more c =
    let P : CpuView _ → Type 0 = IsIdle c.in_ok-domain.domain in
    (All-pop P _ _ _ c.pop.ensures.items (new_ones_are_idle _ _ c.in_ok-domain.ensures.made)).0

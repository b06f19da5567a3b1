-- All are idle, and so each that was taken out.
use Rattle.std.proofs.Common.{All}
use Rattle.std.proofs.lemmas.List.Elements.{All-pop}
use Rattle.domain.specs.Views.{CpuView}
use Rattle.driver.specs.Pools.{IsIdle}
use Rattle.driver_tests.proofs.tests.reporting.four.Goals as goal

pub returns-clause-first : goal.returns-clause-first
returns-clause-first c =
    let P : CpuView _ → Type 0 = IsIdle c.in_ok-domain.domain in
    let fourth = All-pop P _ _ _ c.pop.ensures.items c.in_ok-domain.ensures.idle in
    let third = All-pop P _ _ _ c.pop-2.ensures.items fourth.0 in
    let second = All-pop P _ _ _ c.pop-3.ensures.items third.0 in
    let first = All-pop P _ _ _ c.pop-4.ensures.items second.0 in
    let at_second : P c.unwrap-second.result = rw c.unwrap-second.ensures at second.1 in
    let at_first : P c.unwrap-first.result = rw c.unwrap-first.ensures at first.1 in
    (at_first, at_second)

pub returns-clause-rest : goal.returns-clause-rest
returns-clause-rest c =
    let P : CpuView _ → Type 0 = IsIdle c.in_ok-domain.domain in
    let fourth = All-pop P _ _ _ c.pop.ensures.items c.in_ok-domain.ensures.idle in
    let third = All-pop P _ _ _ c.pop-2.ensures.items fourth.0 in
    let at_fourth : P c.unwrap-fourth.result = rw c.unwrap-fourth.ensures at fourth.1 in
    let at_third : P c.unwrap-third.result = rw c.unwrap-third.ensures at third.1 in
    (at_third, at_fourth)

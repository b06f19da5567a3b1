-- All are ready, and so are the two that were taken out.
use Rattle.std.proofs.Common.{All}
use Rattle.std.proofs.lemmas.List.Elements.{All-pop}
use Rattle.domain.specs.Views.{CpuView}
use Rattle.domain.proofs.Starting.{IsReady, new_ones_are_ready}
use Rattle.domain_tests.proofs.tests.alone.last_two.Goals as goal

pub returns : goal.returns
returns g c =
    let P : CpuView _ → Type 0 = IsReady c.in_ok-domain.domain in
    let all : All P c.in_ok-domain.cpus.items = new_ones_are_ready _ _ c.in_ok-domain.ensures.made in
    let last = All-pop P _ _ _ c.pop.ensures.items all in
    let other = All-pop P _ _ _ c.pop-2.ensures.items last.0 in
    let of_other = rw c.unwrap-other.ensures at other.1 in
    let of_last = rw c.unwrap-last.ensures at last.1 in
    (of_other.0, of_other.1, of_last.0, of_last.1)

-- All are ready, and so is the one that was taken out.
use Rattle.std.proofs.lemmas.List.Elements.{All-pop}
use Rattle.domain.proofs.Starting.{IsReady, new_ones_are_ready}
use Rattle.domain_tests.proofs.tests.edges.last_of.Goals as goal

pub returns : goal.returns
returns c =
    let made = c.in_ok-domain.ensures.made in
    let only = All-pop (IsReady c.in_ok-domain.domain) _ _ _ c.pop.ensures.items (new_ones_are_ready _ _ made) in
    let is = rw c.unwrap-cpu.ensures at only.1 in
    is.0

-- The seat was the last one of a new tree.
use Rattle.srcubench.proofs.AllAsked.{last_can, asked_alone}
use Rattle.srcubench.proofs.Drives.{was_some, was_last}
use Rattle.srcubench.proofs.asking.run_alone.Goals as goal

pub make_asks-requires : goal.make_asks-requires
make_asks-requires g c =
    let made = c.in_ok-seats.ensures.made.made in
    let some = was_some _ _ _ _ c.pop.ensures.items c.unwrap-needs.ensures in
    last_can _ _ _ _ _ made.seats_new some (was_last _ _ _ _ c.pop.ensures.items c.unwrap-needs.ensures) _ c.requires.few

pub returns-clause-asked : goal.returns-clause-asked
returns-clause-asked g c =
    let made = c.in_ok-seats.ensures.made.made in
    let some = was_some _ _ _ _ c.pop.ensures.items c.unwrap-needs.ensures in
    asked_alone _ _ _ _ _ made.seats_new some (was_last _ _ _ _ c.pop.ensures.items c.unwrap-needs.ensures) _ _ _ made.count c.make_asks.ensures

use Rattle.vault.proofs.CallerLemmas.{keys_pop}
use Rattle.vault_tests.proofs.tests.two_places.Goals as goal

pub returns : goal.returns
returns g c = let made = c.in_ok-vault.ensures in
    let one = keys_pop _ 1 _ _ _ c.unwrap-second.result c.pop.ensures.items c.unwrap-second.ensures made.0 made.1 in
    let two = keys_pop _ 0 _ _ _ c.unwrap-first.result c.pop-2.ensures.items c.unwrap-first.ensures one.1 one.0 in (two.2, one.2)

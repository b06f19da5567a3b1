-- The two processors were new ones of one domain.
use Rattle.srcubench.proofs.TwoCpus.{popped, of_one_domain, all_of_them, have_made}
use Rattle.srcubench.proofs.held.run.Goals as goal

pub make_held_pairs-made-requires : goal.make_held_pairs-made-requires
make_held_pairs-made-requires g c =
    let made = c.in_ok-cpus.ensures.made in
    let are = popped _ _ _ _ _ c.unwrap-first.result c.unwrap-second.result made.count c.pop.ensures.items c.pop-2.ensures.items c.unwrap-second.ensures c.unwrap-first.ensures in
    of_one_domain _ _ _ _ _ made.cpus_new are

pub returns-clause-made : goal.returns-clause-made
returns-clause-made g c =
    let made = c.in_ok-cpus.ensures.made in
    let are = popped _ _ _ _ _ c.unwrap-first.result c.unwrap-second.result made.count c.pop.ensures.items c.pop-2.ensures.items c.unwrap-second.ensures c.unwrap-first.ensures in
    (all_of_them _ _ _ _ _ made.cpus_new are _ _ _ c.make_held_pairs-made.ensures.made c.make_held_pairs-made.ensures.all).all

pub returns-clause-pairs : goal.returns-clause-pairs
returns-clause-pairs g c =
    let made = c.in_ok-cpus.ensures.made in
    let are = popped _ _ _ _ _ c.unwrap-first.result c.unwrap-second.result made.count c.pop.ensures.items c.pop-2.ensures.items c.unwrap-second.ensures c.unwrap-first.ensures in
    have_made _ _ _ _ _ made.cpus_new are _ _ _ c.make_held_pairs-made.ensures.made (all_of_them _ _ _ _ _ made.cpus_new are _ _ _ c.make_held_pairs-made.ensures.made c.make_held_pairs-made.ensures.all)

-- The processors and the writers are all there are, and of the domain.
use Rattle.std.proofs.Common.{arith}
use Rattle.boxes.proofs.CallerLemmas.{writers_at_home}
use Rattle.boxes_tests.proofs.tests.places.ground_of.Goals as goal

pub returns-clause-cpus : goal.returns-clause-cpus
returns-clause-cpus c = c.in_ok-domain.ensures.all.here

pub returns-clause-processors : goal.returns-clause-processors
returns-clause-processors c =
    let count = c.in_ok-domain.ensures.made.count in
    let long = c.in_ok-domain.cpus.ok.0 in
    omega (arith, count, long)

pub returns-clause-writers : goal.returns-clause-writers
returns-clause-writers c = writers_at_home c.in_ok-domain.domain.domain _ _ _ c.in_ok-domain.ensures.writers

pub returns-clause-cells : goal.returns-clause-cells
returns-clause-cells c =
    let count = c.in_ok-domain.ensures.writers.count in
    let long = c.in_ok-domain.writers.ok.0 in
    omega (arith, count, long)

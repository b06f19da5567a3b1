-- Both are of the domain, as all that come with it are.
use Rattle.std.proofs.Common.{arith}
use Rattle.domain.proofs.CallerLemmas.{new_ones_are_here}
use Rattle.steps.proofs.pair.Goals as goal

pub apart-first-requires-clause-two : goal.apart-first-requires-clause-two
apart-first-requires-clause-two c =
    let count = c.in_ok-domain.ensures.made.count in
    let long = c.in_ok-domain.cpus.ok.0 in
    omega (arith, count, long)

pub apart-first-requires-clause-all : goal.apart-first-requires-clause-all
apart-first-requires-clause-all c = new_ones_are_here _ _ c.in_ok-domain.ensures.made

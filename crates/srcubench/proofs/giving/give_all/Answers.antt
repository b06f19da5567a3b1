-- One round more.
use Rattle.std.proofs.Common.{arith}
use Rattle.srcubench.proofs.Given.{no_round, one_round}
use Rattle.srcubench.proofs.giving.give_all.Goals as goal

pub loop-init : goal.loop-init
loop-init g c = record { here = c.requires.domain; queuers = c.processor-queuers.ensures; gives = no_round _ _ }

pub give_round-requires-clause-queuers : goal.give_round-requires-clause-queuers
give_round-requires-clause-queuers g c =
    let same = c.loop.invariant.queuers in
    let fits = c.requires.domain.fits in
    let cpu = fits.cpu in
    let there = fits.there in
    omega (arith, same, cpu, there)

pub loop-preserved : goal.loop-preserved
loop-preserved g c = record {
  here = c.give_round.ensures.here;
  queuers = c.loop.invariant.queuers;
  gives = one_round _ _ _ _ _ _ _ c.loop.invariant.queuers c.loop.invariant.gives c.in_ok-more.ensures.gives;
}

use Rattle.std.proofs.Common.{ℕ, sym, subst, arith}
use Rattle.calls.specs.Tallies.{AreTakers}
use Rattle.calls.proofs.Seating.{finished_there}
use Rattle.calls.proofs.Looking.{counts_finished_here}
use Rattle.calls.proofs.tally.count_finished.Goals as goal

pub load-requires : goal.load-requires
load-requires g c =
    let p : ℕ = c.requires.there.0 in
    let at = c.requires.there.1 in
    let low = finished_there _ _ _ c.requires.placed.wide c.requires.there.2 in
    (c.requires.placed.seated, omega (arith, low, at), counts_finished_here _ _ _ c.requires.rests.0 p _ g.N.Counting.count c.args.seat.now.me c.requires.count at c.requires.rests.1 c.requires.there.2)

pub returns : goal.returns
returns g c = let e = c.load.ensures in record {
  table = e.0;
  bare = e.2.0;
  looks = e.2.1;
  within = e.2.2;
  takers = subst (λ (n : ℕ). AreTakers n c.load.new.seat.me.0.seen) (sym c.requires.count) e.2.3;
}

use Rattle.std.proofs.Common.{sym, subst, arith}
use Rattle.calls.specs.Plays.{FindsAll}
use Rattle.calls.proofs.Seating.{queued_there}
use Rattle.calls.proofs.Meeting.{finds_all_here}
use Rattle.calls.proofs.tally.see_all.Goals as goal

pub load-requires : goal.load-requires
load-requires g c =
    let low = queued_there _ _ _ c.requires.placed.wide c.requires.rests.there in
    let at = c.place_of_queued.ensures in
    (c.requires.placed.seated, omega (arith, low, at), finds_all_here _ _ _ _ g.N.Counting.count c.args.seat.now.me c.requires.count)

pub returns : goal.returns
returns g c = let e = c.load.ensures in record {
  table = e.0;
  me = e.2.0;
  finds = λ p is. subst (λ n. FindsAll n p c.args.seat.now.me.0 c.load.new.seat.me.0) (sym c.requires.count) (e.2.1 p is);
}

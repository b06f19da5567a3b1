use Rattle.std.proofs.Common.{◌<◌, sym, ap, ◌∙◌, arith}
use Rattle.desk.specs.BayViews.{BayView, BaySeatView}
use Rattle.desk.proofs.Baying.{accepts_of, at_bay_loaded}
use Rattle.desk.proofs.bay.seat.BaySeat.admit.Goals as goal

pub admit-requires : goal.admit-requires
admit-requires g c =
    let one = c.bay.invariant in
    let there = sym (ap (λ (b : BayView g.row.T.Denot). b.bay) c.bay.view_is) in
    let some : 0 < c.bay.inside.table.shared.table_id.words = omega (arith, one) in (
      omega arith,
      (
        record {
          seated = ap (λ (v : BaySeatView g.row.T.Denot). v.bay) c.other.view_is ∙ (c.requires.other ∙ there);
          some = some;
        },
        (record { seated = ap (λ (v : BaySeatView g.row.T.Denot). v.bay) c.self.view_is ∙ (c.requires.bay ∙ there); some = some }, (rw (← c.self.view_is, ← c.other.view_is) at c.requires.covered, some)),
      ),
    )

pub invariant_of-other : goal.invariant_of-other
invariant_of-other g c = let e = c.admit.ensures.accepts in at_bay_loaded g.T.Token.domain g.T.Alike.like c.other.inside.seat.me c.admit.new.first.me _ c.other.invariant e.now e.own e.there

pub returns-clause-accepts : goal.returns-clause-accepts
returns-clause-accepts g c =
    let e = c.admit.ensures.accepts in
    rw (← c.self.view_is, ← c.other.view_is) (accepts_of g.T.Token.domain g.T.Alike.like c.other.inside.seat.me c.admit.new.first.me _ c.other.invariant e.now e.own e.there _ _ c.admit.ensures.table (rw (← c.self.view_is, ← c.other.view_is) at c.requires.covered))

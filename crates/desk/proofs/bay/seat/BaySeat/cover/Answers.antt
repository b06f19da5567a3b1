use Rattle.std.proofs.Common.{◌<◌, refl, sym, ap, ◌∙◌, arith}
use Rattle.desk.specs.BayViews.{BayView, BaySeatView}
use Rattle.desk.proofs.Baying.{covers_of, at_bay_loaded}
use Rattle.desk.proofs.bay.seat.BaySeat.cover.Goals as goal

pub cover-requires : goal.cover-requires
cover-requires g c =
    let one = c.bay.invariant in
    let there = sym (ap (λ (b : BayView g.row.T.Denot). b.bay) c.bay.view_is) in
    let some : 0 < c.bay.inside.table.shared.table_id.words = omega (arith, one) in
    (omega arith, (record { seated = ap (λ (v : BaySeatView g.row.T.Denot). v.bay) c.self.view_is ∙ (c.requires.bay ∙ there); some = some }, (record { seated = ap (λ (v : BaySeatView g.row.T.Denot). v.bay) c.other.view_is ∙ (c.requires.other ∙ there); some = some }, some)))

pub invariant_of-self : goal.invariant_of-self
invariant_of-self g c = let e = c.cover.ensures.covers in at_bay_loaded g.T.Token.domain g.T.Alike.like c.self.inside.seat.me c.cover.new.first.me _ c.self.invariant e.now e.own e.there

pub returns-clause-covers : goal.returns-clause-covers
returns-clause-covers g c =
    let e = c.cover.ensures.covers in
    rw (← c.self.view_is, ← c.other.view_is) (covers_of g.T.Token.domain g.T.Alike.like c.self.inside.seat.me c.cover.new.first.me _ c.self.invariant e.now e.own e.there _ _ c.cover.ensures.table _ refl e.since e.covers)

use Rattle.std.proofs.Common.{sym, ap, ◌∙◌, arith}
use Rattle.desk.specs.BayViews.{BayView, BaySeatView}
use Rattle.desk.proofs.Baying.{takes_as, in_vain, stays_free, is_elsewhere, at_bay_in_vain, slot_with_it, taken, taken_holds, found_it, taken_domain, taken_alike, at_bay_taken}
use Rattle.desk.proofs.bay.seat.BaySeat.take.Goals as goal

pub swap-requires : goal.swap-requires
swap-requires g c = let one = c.bay.invariant in (
  ap (λ (v : BaySeatView g.row.T.Denot). v.bay) c.self.view_is ∙ (c.requires.bay ∙ sym (ap (λ (b : BayView g.row.T.Denot). b.bay) c.bay.view_is)),
  omega (arith, one),
  takes_as g.T.Token.domain g.T.Alike.like c.bay.inside.table.shared.key _ _ c.self.inside.seat.me c.self.invariant (rw (← c.self.view_is) at c.requires.free),
)

pub invariant_of-self : goal.invariant_of-self
invariant_of-self g c = at_bay_in_vain g.T.Token.domain g.T.Alike.like c.self.inside.seat.me c.swap.result c.swap.new.seat.me c.swap.ensures.2 c.if-swap-eq-OUT.true _ _ c.swap.ensures.0 c.self.invariant

pub returns-then-swap-eq-OUT : goal.returns-then-swap-eq-OUT
returns-then-swap-eq-OUT g c =
    let t = c.swap.ensures.2 in
    rw (← c.self.view_is) (record {
      swap = in_vain g.T.Token.domain g.T.Alike.like c.self.inside.seat.me c.swap.result c.swap.new.seat.me t c.if-swap-eq-OUT.true _ _ c.swap.ensures.0;
      holds = stays_free g.T.Token.domain g.T.Alike.like c.self.inside.seat.me c.swap.result c.swap.new.seat.me t c.if-swap-eq-OUT.true _ _ c.swap.ensures.0;
      elsewhere = λ _. is_elsewhere g.T.Token.domain g.T.Alike.like c.self.inside.seat.me c.swap.result c.swap.new.seat.me t c.if-swap-eq-OUT.true _ _ c.swap.ensures.0;
      domain = tt;
      alike = tt;
    })

pub exchange-requires : goal.exchange-requires
exchange-requires g c = (
  c.swap.ensures.0 ∙ (ap (λ (v : BaySeatView g.row.T.Denot). v.bay) c.self.view_is ∙ (c.requires.bay ∙ sym (ap (λ (b : BayView g.row.T.Denot). b.bay) c.bay.view_is))),
  slot_with_it g.T.Token.domain g.T.Alike.like c.self.inside.seat.me c.swap.result c.swap.new.seat.me c.swap.ensures.2 c.if-swap-eq-OUT.false,
)

pub invariant_of-self-2 : goal.invariant_of-self-2
invariant_of-self-2 g c = let o = c.exchange.ensures in
    at_bay_taken g.T.Token.domain g.T.Alike.like c.self.inside.seat.me c.swap.result c.swap.new.seat.me c.swap.ensures.2 c.if-swap-eq-OUT.false c.exchange.result c.exchange.new.seat.me o.2 o.3 _ _ (o.0 ∙ c.swap.ensures.0) c.self.invariant

pub returns : goal.returns
returns g c =
    let t = c.swap.ensures.2 in
    let o = c.exchange.ensures in
    let same = o.0 ∙ c.swap.ensures.0 in
    rw (← c.self.view_is) (record {
      swap = taken g.T.Token.domain g.T.Alike.like c.self.inside.seat.me c.swap.result c.swap.new.seat.me t c.if-swap-eq-OUT.false c.exchange.result c.exchange.new.seat.me o.2 o.3 _ _ same;
      holds = taken_holds g.T.Token.domain g.T.Alike.like c.self.inside.seat.me c.swap.result c.swap.new.seat.me t c.if-swap-eq-OUT.false c.exchange.result c.exchange.new.seat.me o.2 o.3 _ _ same;
      elsewhere = λ none. found_it g.T.Token.domain g.T.Alike.like c.self.inside.seat.me c.swap.result c.swap.new.seat.me t c.if-swap-eq-OUT.false c.exchange.result c.exchange.new.seat.me o.2 o.3 _ _ same none;
      domain = taken_domain g.T.Token.domain g.T.Alike.like c.self.inside.seat.me c.swap.result c.swap.new.seat.me t c.if-swap-eq-OUT.false c.exchange.result c.exchange.new.seat.me o.2 o.3 _ _ same;
      alike = taken_alike g.T.Token.domain g.T.Alike.like c.self.inside.seat.me c.swap.result c.swap.new.seat.me t c.if-swap-eq-OUT.false c.exchange.result c.exchange.new.seat.me o.2 o.3 _ _ same;
    })

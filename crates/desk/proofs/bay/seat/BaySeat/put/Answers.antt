use Rattle.std.proofs.Common.{sym, ap, ◌∙◌, arith}
use Rattle.desk.specs.BayViews.{BayView, BaySeatView}
use Rattle.desk.proofs.Baying.{slot_in_hand, was_empty, puts_as, put_swap, put_frees, put_lies, at_bay_put}
use Rattle.desk.proofs.bay.seat.BaySeat.put.Goals as goal

pub exchange-nothing-requires : goal.exchange-nothing-requires
exchange-nothing-requires g c = (
  ap (λ (v : BaySeatView g.row.T.Denot). v.bay) c.self.view_is ∙ (c.requires.bay ∙ sym (ap (λ (b : BayView g.row.T.Denot). b.bay) c.bay.view_is)),
  slot_in_hand c.self.inside.seat.me c.self.invariant (rw (← c.self.view_is) at c.requires.held),
)

pub unreachable-requires : goal.unreachable-requires
unreachable-requires g c = c.in_default.not-None (was_empty c.self.inside.seat.me c.exchange-nothing.result c.self.invariant (rw (← c.self.view_is) at c.requires.held) c.exchange-nothing.ensures.2)

pub swap-requires : goal.swap-requires
swap-requires g c =
    let e = c.exchange-nothing.ensures in
    let one = c.bay.invariant in (
      e.0 ∙ (ap (λ (v : BaySeatView g.row.T.Denot). v.bay) c.self.view_is ∙ (c.requires.bay ∙ sym (ap (λ (b : BayView g.row.T.Denot). b.bay) c.bay.view_is))),
      omega (arith, one),
      puts_as g.T.Token.domain g.T.Alike.like c.bay.inside.table.shared.key _ _ c.self.inside.seat.me c.exchange-nothing.new.seat.me c.args.value c.self.invariant (rw (← c.self.view_is) at c.requires.held) e.3 (rw (← c.self.view_is) at c.requires.domain) (rw (← c.self.view_is) at c.requires.alike),
    )

pub invariant_of-self : goal.invariant_of-self
invariant_of-self g c = let e = c.exchange-nothing.ensures in
    at_bay_put c.self.inside.seat.me c.exchange-nothing.new.seat.me c.swap.new.seat.me c.args.value c.self.invariant (rw (← c.self.view_is) at c.requires.held) e.3 c.swap.ensures.2 _ _ (c.swap.ensures.0 ∙ e.0)

pub returns : goal.returns
returns g c =
    let e = c.exchange-nothing.ensures in
    let held = rw (← c.self.view_is) at c.requires.held in
    let same = c.swap.ensures.0 ∙ e.0 in
    rw (← c.self.view_is) (record {
      swap = put_swap c.self.inside.seat.me c.exchange-nothing.new.seat.me c.swap.new.seat.me c.args.value c.self.invariant held e.3 c.swap.ensures.2 _ _ same;
      holds = put_frees c.self.inside.seat.me c.exchange-nothing.new.seat.me c.swap.new.seat.me c.args.value c.self.invariant held e.3 c.swap.ensures.2 _ _ same;
      lies = put_lies c.self.inside.seat.me c.exchange-nothing.new.seat.me c.swap.new.seat.me c.args.value c.self.invariant held e.3 c.swap.ensures.2 _ _ same;
    })

use Rattle.std.proofs.Common.{rules, ap, sym, ◌∙◌, arith}
use Rattle.desk.proofs.Trading.{written, was_held, swaps_as, trades}
use Rattle.desk.proofs.seat.exchange.Goals as goal

pub swap-slot-requires : goal.swap-slot-requires
swap-slot-requires g c =
    let e = c.exchange-nothing.ensures in
    let one = c.requires.table.1 in
    (e.0 ∙ c.requires.table.0, omega (arith, one), trades g.T.Token.domain c.args.top.now.key _ _ c.args.slot c.args.left _ (written _ _ _ _ _ c.requires.holds e.3) (search rules))

pub returns-clause-holds : goal.returns-clause-holds
returns-clause-holds g c = written _ _ _ _ _ c.swap-slot.ensures.2.sits c.exchange.ensures.3

pub returns-clause-swaps : goal.returns-clause-swaps
returns-clause-swaps g c =
    let e = c.exchange-nothing.ensures in
    let t = c.swap-slot.ensures.2 in
    let o = c.exchange.ensures in
    swaps_as _ _ _ _ _ _ _ t.found _ (o.0 ∙ (c.swap-slot.ensures.0 ∙ e.0)) (sym (ap (λ m. m.0) e.3)) (ap (λ m. m.0) o.3) (was_held _ _ _ _ t.sits o.2)
    (t.swaps c.args.seat.now.table_id c.args.slot c.args.left (ap (λ m. m.1) (written _ _ _ _ _ c.requires.holds e.3)))

use Rattle.std.proofs.Common.{refl, sym, ap, ◌∙◌, arith}
use Rattle.desk.specs.Glossary.{BayView, BaySeatView, as_bay_seat}
use Rattle.desk.proofs.Baying.{takes_as, in_vain, stays_free, is_elsewhere, at_bay_in_vain, slot_with_it}
use Rattle.desk.proofs.BayWorking.{found_swap, may_lie, leaves_as, at_bay_left, left_swap, left_free}
use Rattle.desk.proofs.bay.seat.BaySeat.work.Goals as goal

pub swap-requires : goal.swap-requires
swap-requires g c = let one = c.bay.invariant in (
  ap (λ (v : BaySeatView g.row.T.Denot). v.bay) c.self.view_is ∙ (c.requires.bay ∙ sym (ap (λ (b : BayView g.row.T.Denot). b.bay) c.bay.view_is)),
  omega (arith, one),
  takes_as g.T.Token.domain g.T.Alike.like c.bay.inside.table.shared.key _ _ c.self.inside.seat.me c.self.invariant (rw (← c.self.view_is) at c.requires.free),
)

pub invariant_of-self : goal.invariant_of-self
invariant_of-self g c = at_bay_in_vain g.T.Token.domain g.T.Alike.like c.self.inside.seat.me c.swap.result c.swap.new.seat.me c.swap.ensures.2 c.if-swap-eq-OUT.true _ _ c.swap.ensures.0 c.self.invariant

pub returns-then-swap-eq-OUT : goal.returns-then-swap-eq-OUT
returns-then-swap-eq-OUT g c =
    let t = c.swap.ensures.2 in
    rw (← c.self.view_is) (record {
      free = stays_free g.T.Token.domain g.T.Alike.like c.self.inside.seat.me c.swap.result c.swap.new.seat.me t c.if-swap-eq-OUT.true _ _ c.swap.ensures.0;
      works = (
        record {
          swap = in_vain g.T.Token.domain g.T.Alike.like c.self.inside.seat.me c.swap.result c.swap.new.seat.me t c.if-swap-eq-OUT.true _ _ c.swap.ensures.0;
          elsewhere = is_elsewhere g.T.Token.domain g.T.Alike.like c.self.inside.seat.me c.swap.result c.swap.new.seat.me t c.if-swap-eq-OUT.true _ _ c.swap.ensures.0;
        },
        refl,
        refl,
      );
    })

pub slot_mut-requires : goal.slot_mut-requires
slot_mut-requires g c = (
  c.swap.ensures.0 ∙ (ap (λ (v : BaySeatView g.row.T.Denot). v.bay) c.self.view_is ∙ (c.requires.bay ∙ sym (ap (λ (b : BayView g.row.T.Denot). b.bay) c.bay.view_is))),
  slot_with_it g.T.Token.domain g.T.Alike.like c.self.inside.seat.me c.swap.result c.swap.new.seat.me c.swap.ensures.2 c.if-swap-eq-OUT.false,
)

pub swap-requires-2 : goal.swap-requires-2
swap-requires-2 g c =
    let one = c.bay.invariant in
    let t = c.swap.ensures.2 in
    let there = c.if-swap-eq-OUT.false in
    let read = c.slot_mut.ensures.value in
    let table = c.self.inside.seat.table_id in
    let keeps = rw (← c.self.view_is) at c.requires.keeps in (
      c.swap.ensures.0 ∙ (ap (λ (v : BaySeatView g.row.T.Denot). v.bay) c.self.view_is ∙ (c.requires.bay ∙ sym (ap (λ (b : BayView g.row.T.Denot). b.bay) c.bay.view_is))),
      omega (arith, one),
      leaves_as t there read c.self.invariant c.in-Some.is table c.run-answer.new.value c.bay.inside.table.shared.key _ _
          (keeps _ c.run-answer.result _ c.run-answer.new.lent c.run-answer.new.more (may_lie t there read c.self.invariant c.in-Some.is table) c.run-answer.ensures),
    )

pub invariant_of-self-2 : goal.invariant_of-self-2
invariant_of-self-2 g c = at_bay_left c.swap.ensures.2 c.if-swap-eq-OUT.false c.slot_mut.ensures.value c.self.invariant c.in-Some.is c.self.inside.seat.table_id _ _ c.swap-2.ensures.2

pub returns : goal.returns
returns g c =
    let t = c.swap.ensures.2 in
    let there = c.if-swap-eq-OUT.false in
    let read = c.slot_mut.ensures.value in
    let table = c.self.inside.seat.table_id in
    rw (← c.self.view_is) (record {
      free = left_free t there read c.self.invariant c.in-Some.is table _ _ c.swap-2.ensures.2 _ _ c.swap-2.ensures.0;
      works = record {
        found = _;
        left = c.run-answer.new.value;
        took = as_bay_seat c.swap.new.seat.table_id c.swap.new.seat.me.0;
        may = may_lie t there read c.self.invariant c.in-Some.is table;
        takes = found_swap t there read c.self.invariant c.in-Some.is table _ c.swap.ensures.0;
        works = c.run-answer.ensures;
        puts = left_swap t there read c.self.invariant c.in-Some.is table _ _ c.swap-2.ensures.2 _ _ c.swap-2.ensures.0;
      };
    })

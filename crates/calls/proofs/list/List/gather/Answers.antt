use Rattle.std.proofs.Common.{rules, ℕ, ◌≤◌, sym, ap, ◌∙◌, arith}
use Rattle.calls.specs.Glossary.{queued_in, known_in, ListView}
use Rattle.calls.proofs.Turning.{seat_saw, seat_covers}
use Rattle.calls.proofs.Gathering.{on_err}
use Rattle.calls.proofs.Arriving.{came_none, came_more, came_same, moved_next}
use Rattle.calls.proofs.list.List.gather.Goals as goal

pub loop-init : goal.loop-init
loop-init g c =
    let h = c.see_list-counted.ensures in
    let v = c.self.invariant in record {
      came =
          rw (← c.self.view_is) (came_none _ _ (λ i. let k = known_in (h.list_is i).0.client.list in record {
            tallies = h.list_table i;
            processor = c.self.inside.processor;
            counted = (known_in c.see_list-counted.new.list.me.0.client.list).queued;
            finished = k.finished;
            out = k.out;
            moved = k.moved;
            entries = k.waiting;
            given = c.self.inside.given;
            sight = c.self.inside.sight;
          }));
      next = ap (λ m. Rattle.calls.specs.Seats.next_known (known_in m.0.client.list)) h.list_is ∙ sym v.numbered;
      counted = ap (λ m. (known_in m.0.client.list).queued) h.list_is;
    }

pub move_one-requires : goal.move_one-requires
move_one-requires g c =
    let v = c.loop.invariant in
    let next = v.next in
    let counted = v.counted in
    let lt = c.loop-test.true in
    (omega arith, (ap (λ t. t.shared.table_id) c.deref.ensures ∙ (sym c.seat.invariant.placed.seated ∙ (ap (λ s. s.tallies) c.seat.view_is ∙ (c.requires ∙ sym (ap (λ l. l.tallies) v.came.is)))), (search rules, omega (arith, next, counted, lt))))

pub invariant_of-seat : goal.invariant_of-seat
invariant_of-seat g c = seat_saw c.seat.inside c.see_list-counted.new.seat c.seat.invariant _ c.self.inside.processor _ _ c.see_list-counted.new.list (ap (λ t. t.shared.key) c.deref.ensures) c.see_list-counted.ensures

pub returns-in_err-move_one-clause-gathers : goal.returns-in_err-move_one-clause-gathers
returns-in_err-move_one-clause-gathers g c = record {
  came = came_same _ _ _ c.loop.invariant.came c.in_err-move_one.ensures;
  covers = rw (← c.seat.view_is) (seat_covers c.seat.inside c.see_list-counted.new.seat c.seat.invariant _ c.self.inside.processor _ _ c.see_list-counted.new.list (ap (λ t. t.shared.key) c.deref.ensures) c.see_list-counted.ensures);
}

pub returns-in_err-move_one-clause-short : goal.returns-in_err-move_one-clause-short
returns-in_err-move_one-clause-short g c =
    let next = c.loop.invariant.next in
    let counted = c.loop.invariant.counted in
    let same = ap (λ (l : ListView g.row.J.Denot). Rattle.calls.specs.Views.next_of l) c.in_err-move_one.ensures in
    let kept = ap (λ (l : ListView g.row.J.Denot). l.counted) c.in_err-move_one.ensures in
    let lt = c.loop-test.true in
    on_err c.from_residual.result (omega (arith, next, counted, same, kept, lt))

pub loop-preserved : goal.loop-preserved
loop-preserved g c =
    let v = c.loop.invariant in
    let one = c.in_ok-move_one.ensures in
    let next = v.next in
    let more = moved_next _ _ one in record {
      came = came_more _ _ _ v.came one;
      next = omega (arith, next, more);
      counted = ap (λ l. l.counted) one.is ∙ v.counted;
    }

pub invariant_of-seat-2 : goal.invariant_of-seat-2
invariant_of-seat-2 g c = seat_saw c.seat.inside c.see_list-counted.new.seat c.seat.invariant _ c.self.inside.processor _ _ c.see_list-counted.new.list (ap (λ t. t.shared.key) c.deref.ensures) c.see_list-counted.ensures

pub returns-clause-gathers : goal.returns-clause-gathers
returns-clause-gathers g c = record {
  came = c.loop.invariant.came;
  covers = rw (← c.seat.view_is) (seat_covers c.seat.inside c.see_list-counted.new.seat c.seat.invariant _ c.self.inside.processor _ _ c.see_list-counted.new.list (ap (λ t. t.shared.key) c.deref.ensures) c.see_list-counted.ensures);
}

pub returns-clause-all : goal.returns-clause-all
returns-clause-all g c =
    let v = c.self.invariant in
    let h = c.see_list-counted.ensures in
    let next = c.loop.invariant.next in
    let past = c.loop-test.false in
    let few = v.few in
    let least = h.there.queued_least in
    let counted = h.counted in
    let low : c.self.inside.arrived ≤ c.see_list-counted.result = omega (arith, few, least, counted) in
    let end = c.loop.auto.counter-end low in
    omega (arith, next, past, end, counted) ∙ ap (λ (p : ℕ). queued_in p c.see_list-counted.new.seat.me.0.seen) (ap (λ l. l.processor) c.self.view_is)

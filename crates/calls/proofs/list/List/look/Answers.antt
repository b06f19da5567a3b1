use Rattle.std.proofs.Common.{ap, sym, ◌∙◌, subst, arith}
use Rattle.calls.specs.Glossary.{Covers, CallSeatView, view_of_seat}
use Rattle.calls.proofs.Turning.{seat_saw, seat_covers}
use Rattle.calls.proofs.Gathering.{list_saw, saw_same, saw_was, saw_in, looks_at}
use Rattle.calls.proofs.list.List.look.Goals as goal

pub invariant_of-self : goal.invariant_of-self
invariant_of-self g c = list_saw c.self.inside _ _ _ _ c.see_list.new.list c.see_list.ensures c.self.invariant

pub invariant_of-seat : goal.invariant_of-seat
invariant_of-seat g c = seat_saw c.seat.inside c.see_list.new.seat c.seat.invariant _ c.self.inside.processor _ _ c.see_list.new.list (ap (λ t. t.shared.key) c.deref.ensures) c.see_list.ensures

pub load_queued-requires : goal.load_queued-requires
load_queued-requires g c =
    let there = c.self.invariant.there in
    let wide = c.processors-processors.ensures.wide in
    let words = ap (λ t. t.words) (c.requires ∙ sym (ap (λ l. l.tallies) c.self.view_is)) in
    omega (arith, there, wide, words)

pub returns : goal.returns
returns g c =
    let h = c.see_list.ensures in
    rw (← c.self.view_is) (record {
      looks = looks_at c.self.inside.processor _ c.args.seat.now c.load_queued.new.self _ c.load_queued.ensures.does
          (subst (λ (z : CallSeatView g.row.J.Denot). Covers z z.seen (view_of_seat (record c.seat.inside { seat = c.see_list.new.seat }))) c.seat.view_is
          (seat_covers c.seat.inside c.see_list.new.seat c.seat.invariant _ c.self.inside.processor _ _ c.see_list.new.list (ap (λ t. t.shared.key) c.deref.ensures) h));
      list = saw_same c.self.inside _ _ _ _ c.see_list.new.list h;
      was = saw_was c.self.inside _ _ _ _ c.see_list.new.list h;
      is = saw_in c.self.inside _ _ _ _ c.see_list.new.list h;
    })

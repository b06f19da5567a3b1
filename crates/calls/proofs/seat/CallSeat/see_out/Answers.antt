use Rattle.std.proofs.Common.{rules, ◌≡◌, [], refl, ap, sym, ◌∙◌, subst, arith}
use Rattle.std.specs.Arc.{arc_value}
use Rattle.calls.specs.Glossary.{AreTakers, batch_seat, Sat, IsPlaced, IsAtRest, first_known, entries_of, CallSeatView}
use Rattle.calls.specs.declared.view.BatchRight.TheVariants.{OfBatch}
use Rattle.calls.proofs.Counting.{same_queued, begins_itself}
use Rattle.calls.proofs.Arriving.{intake_as}
use Rattle.calls.proofs.Once.{same_calls}
use Rattle.calls.proofs.seat.CallSeat.see_out.Goals as goal

pub see_batch_out-requires : goal.see_batch_out-requires
see_batch_out-requires g c = (
  omega arith,
  (
    search rules,
    (
      subst (λ z. IsPlaced z.shared.key z.shared.table_id c.self.inside.seat) (sym c.deref.ensures) c.self.invariant.placed,
      (
        subst (λ z. IsAtRest c.self.inside.processor z.shared.key c.self.inside.seat.me.0) (sym c.deref.ensures) c.self.invariant.rests,
        (let same : c.batch.inside.seat.table_id ≡ c.self.inside.seat.table_id = ap (λ b. b.tallies) c.batch.view_is ∙ (c.requires ∙ ap (λ (s : CallSeatView _). s.tallies) (sym c.self.view_is)) in
            same ∙ (c.self.invariant.placed.seated ∙ ap (λ z. z.shared.table_id) (sym c.deref.ensures))),
      ),
    ),
  ),
)

pub invariant_of-self : goal.invariant_of-self
invariant_of-self g c =
    let v = c.self.invariant in
    let e = c.see_batch_out.ensures c.batch.inside.processor c.batch.inside.count c.batch.invariant.seated in
    let f = e.finds c.self.inside.processor v.rests.who in record {
      placed = record { seated = e.table ∙ v.placed.seated; wide = v.placed.wide; bare = ap (λ (m : Sat _). m.1) e.me ∙ v.placed.bare };
      rests = record { who = ap (λ (m : Sat _). m.0.role) e.me ∙ v.rests.who; there = v.rests.there; no_list = ap (λ (m : Sat _). m.0.client.list) e.me ∙ v.rests.no_list; no_batch = ap (λ (m : Sat _). m.0.client.batch) e.me };
      loads = f.loads;
      queued = v.queued ∙ sym (same_queued c.self.inside.processor c.see_batch_out.new.seat.me.0.seen c.self.inside.seat.me.0.seen f.own);
      few = v.few;
      intake = intake_as v.intake (e.table) (same_calls c.self.inside.processor c.see_batch_out.new.seat.me.0.seen c.self.inside.seat.me.0.seen f.own);
    }

pub invariant_of-batch : goal.invariant_of-batch
invariant_of-batch g c =
    let v = c.batch.invariant in
    let e = c.see_batch_out.ensures c.batch.inside.processor c.batch.inside.count c.batch.invariant.seated in record {
      seated = record { seated = refl; me = e.batch_is ∙ (v.seated.me ∙ ap (λ (m : Sat _). (batch_seat (OfBatch c.batch.inside.processor (first_known m.0.client.batch) c.batch.inside.count), [])) (sym e.batch_is)) };
      wrapping = v.wrapping;
    }

pub returns-clause-out : goal.returns-clause-out
returns-clause-out g c =
    let v = c.self.invariant in
    let e = c.see_batch_out.ensures c.batch.inside.processor c.batch.inside.count c.batch.invariant.seated in
    let f = e.finds c.self.inside.processor v.rests.who in
    rw (← c.self.view_is, ← c.batch.view_is) (record {
      moment = c.see_batch_out.new.seat.me.0.seen;
      not_before = f.since;
      covers = record {
        same = λ i. record { domain = c.self.inside.sight.domain; tallies = e.table i; processors = (arc_value c.self.inside.table).shared.key.processors; processor = c.self.inside.processor; seen = c.see_batch_out.new.seat.me.0.seen };
        since = f.since;
        own = f.own;
        covers = begins_itself c.see_batch_out.new.seat.me.0.seen;
        loads = f.loads;
        takers = subst (λ z. AreTakers z.shared.key.processors c.see_batch_out.new.seat.me.0.seen) c.deref.ensures f.takers;
      };
      first = e.out.first_is;
      queued = e.out.queued;
    })

pub returns-clause-batch : goal.returns-clause-batch
returns-clause-batch g c =
    let e = c.see_batch_out.ensures c.batch.inside.processor c.batch.inside.count c.batch.invariant.seated in
    rw (← c.batch.view_is) (λ i. record { tallies = e.batch_table i; processor = c.batch.inside.processor; first = first_known (e.batch_is i).0.client.batch; count = c.batch.inside.count; entries = entries_of c.batch.inside.entries.items })

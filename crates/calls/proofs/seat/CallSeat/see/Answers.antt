use Rattle.std.proofs.Common.{rules, ◌≡◌, ◌<◌, List, ap, sym, ◌∙◌, subst, arith}
use Rattle.std.specs.Arc.{arc_value}
use Rattle.calls.specs.Glossary.{Deed, queued_in, deeds_of, AreTakers, IsBeginning, CallSeatView, NoteView, IsPlaced, IsAtRest, calls_in}
use Rattle.calls.proofs.Seating.{some_words}
use Rattle.calls.proofs.Sharing.{gives_note, takes_note}
use Rattle.calls.proofs.Counting.{same_queued}
use Rattle.calls.proofs.Arriving.{intake_as}
use Rattle.calls.proofs.Once.{same_calls}
use Rattle.calls.proofs.seat.CallSeat.see.Goals as goal

pub split_seat-copy-requires : goal.split_seat-copy-requires
split_seat-copy-requires g c =
    let v = c.self.invariant in
    let t = c.deref.ensures in
    let placed = subst (λ z. IsPlaced z.shared.key z.shared.table_id c.self.inside.seat) (sym t) v.placed in
    let there = subst (λ z. c.self.inside.processor < z.shared.key.processors) (sym t) v.rests.there in
    let same : c.note.inside.seat.table_id ≡ c.self.inside.seat.table_id = ap (λ (n : NoteView _). n.tallies) c.note.view_is ∙ (c.requires ∙ ap (λ (s : CallSeatView _). s.tallies) (sym c.self.view_is)) in
    (same ∙ placed.seated, some_words _ _ _ placed.wide there, gives_note _ _ _)

pub join_seat-requires : goal.join_seat-requires
join_seat-requires g c =
    let v = c.self.invariant in
    let t = c.deref.ensures in
    let placed = subst (λ z. IsPlaced z.shared.key z.shared.table_id c.self.inside.seat) (sym t) v.placed in
    let there = subst (λ z. c.self.inside.processor < z.shared.key.processors) (sym t) v.rests.there in
    let same : c.note.inside.seat.table_id ≡ c.self.inside.seat.table_id = ap (λ (n : NoteView _). n.tallies) c.note.view_is ∙ (c.requires ∙ ap (λ (s : CallSeatView _). s.tallies) (sym c.self.view_is)) in
    (placed.seated, c.split_seat-copy.ensures.3 ∙ (same ∙ placed.seated), ap (λ m. m.1) c.split_seat-copy.ensures.4, some_words _ _ _ placed.wide there, takes_note _ _ _ _ _)

pub see_all-requires : goal.see_all-requires
see_all-requires g c = (
  omega arith,
  (
    search rules,
    (
      (let v = c.self.invariant in
          let j = c.join_seat.ensures in
          subst (λ z. IsPlaced z.shared.key z.shared.table_id c.join_seat.new.seat) (sym c.deref.ensures) record { seated = j.0 ∙ v.placed.seated; wide = v.placed.wide; bare = ap (λ m. m.1) j.2 ∙ v.placed.bare }),
      (let v = c.self.invariant in
          let j = c.join_seat.ensures.2 in
          subst (λ z. IsAtRest c.self.inside.processor z.shared.key c.join_seat.new.seat.me.0) (sym c.deref.ensures)
          record { who = ap (λ m. m.0.role) j ∙ v.rests.who; there = v.rests.there; no_list = ap (λ m. m.0.client.list) j ∙ v.rests.no_list; no_batch = ap (λ m. m.0.client.batch) j ∙ v.rests.no_batch }),
    ),
  ),
)

pub invariant_of-self : goal.invariant_of-self
invariant_of-self g c =
    let v = c.self.invariant in
    let e = c.see_all.ensures in
    let me = e.me in
    let j = c.join_seat.ensures in
    let who = ap (λ m. m.0.role) j.2 ∙ v.rests.who in
    let f = e.finds c.self.inside.processor who in record {
      placed = record { seated = e.table ∙ (j.0 ∙ v.placed.seated); wide = v.placed.wide; bare = ap (λ m. m.1) me ∙ (ap (λ m. m.1) j.2 ∙ v.placed.bare) };
      rests = record { who = ap (λ m. m.0.role) me ∙ who; there = v.rests.there; no_list = ap (λ m. m.0.client.list) me ∙ (ap (λ m. m.0.client.list) j.2 ∙ v.rests.no_list); no_batch = ap (λ m. m.0.client.batch) me ∙ (ap (λ m. m.0.client.batch) j.2 ∙ v.rests.no_batch) };
      loads = f.loads;
      queued = v.queued ∙ sym (same_queued c.self.inside.processor c.see_all.new.seat.me.0.seen c.join_seat.new.seat.me.0.seen f.own ∙ ap (λ m. queued_in c.self.inside.processor m.0.seen) j.2);
      few = v.few;
      intake = intake_as v.intake (e.table ∙ j.0) (same_calls c.self.inside.processor c.see_all.new.seat.me.0.seen c.join_seat.new.seat.me.0.seen f.own ∙ ap (λ m. calls_in c.self.inside.processor m.0.seen) j.2);
    }

pub returns : goal.returns
returns g c =
    let e = c.see_all.ensures in
    let j = c.join_seat.ensures in
    let f = e.finds c.self.inside.processor (ap (λ m. m.0.role) j.2 ∙ c.self.invariant.rests.who) in
    let told = ap (λ m. m.0.told) j.2 ∙ ap (λ m. m.0.seen) c.split_seat-copy.ensures.4 in
    let was = ap (λ m. m.0.seen) j.2 in
    rw (← c.self.view_is, ← c.note.view_is) (record {
      same = λ i. record { domain = c.self.inside.sight.domain; tallies = (e.table ∙ j.0) i; processors = (arc_value c.self.inside.table).shared.key.processors; processor = c.self.inside.processor; seen = c.see_all.new.seat.me.0.seen };
      since = subst (λ (l : List (Deed _)). IsBeginning l c.see_all.new.seat.me.0.seen) was f.since;
      own = f.own ∙ ap (deeds_of c.self.inside.processor) was;
      covers = subst (λ (l : List (Deed _)). IsBeginning l c.see_all.new.seat.me.0.seen) told f.covers;
      loads = f.loads;
      takers = subst (λ z. AreTakers z.shared.key.processors c.see_all.new.seat.me.0.seen) c.deref.ensures f.takers;
    })

use Rattle.std.proofs.Common.{◌<◌, List, ap, sym, ◌∙◌, subst}
use Rattle.std.specs.Arc.{arc_value}
use Rattle.calls.specs.Glossary.{Deed, queued_in, AreTrue, IsPlaced, calls_in}
use Rattle.calls.proofs.Seating.{some_words}
use Rattle.calls.proofs.Sharing.{gives_note}
use Rattle.calls.proofs.Arriving.{intake_as}
use Rattle.calls.proofs.seat.CallSeat.note.Goals as goal

pub split_seat-seat-requires : goal.split_seat-seat-requires
split_seat-seat-requires g c =
    let v = c.self.invariant in
    let t = c.deref.ensures in
    let placed = subst (λ z. IsPlaced z.shared.key z.shared.table_id c.self.inside.seat) (sym t) v.placed in
    let there = subst (λ z. c.self.inside.processor < z.shared.key.processors) (sym t) v.rests.there in
    (placed.seated, some_words _ _ _ placed.wide there, gives_note _ _ _)

pub invariant_of-self : goal.invariant_of-self
invariant_of-self g c =
    let v = c.self.invariant in
    let e = c.split_seat-seat.ensures in
    let seen = sym (ap (λ m. m.0.seen) e.2) in record {
      placed = record { seated = e.0 ∙ v.placed.seated; wide = v.placed.wide; bare = ap (λ m. m.1) e.2 ∙ v.placed.bare };
      rests = record { who = ap (λ m. m.0.role) e.2 ∙ v.rests.who; there = v.rests.there; no_list = ap (λ m. m.0.client.list) e.2 ∙ v.rests.no_list; no_batch = ap (λ m. m.0.client.batch) e.2 ∙ v.rests.no_batch };
      loads = subst (λ (l : List (Deed _)). AreTrue l) seen v.loads;
      queued = v.queued ∙ ap (λ (l : List (Deed _)). queued_in c.self.inside.processor l) seen;
      few = v.few;
      intake = intake_as v.intake (e.0) (sym (ap (λ (l : List (Deed _)). calls_in c.self.inside.processor l) seen));
    }

pub returns-clause-same : goal.returns-clause-same
returns-clause-same g c =
    let e = c.split_seat-seat.ensures in
    rw (← c.self.view_is) (λ i. record { domain = c.self.inside.sight.domain; tallies = e.0 i; processors = (arc_value c.self.inside.table).shared.key.processors; processor = c.self.inside.processor; seen = (e.2 i).0.seen })

pub returns-clause-note : goal.returns-clause-note
returns-clause-note g c =
    let e = c.split_seat-seat.ensures in
    rw (← c.self.view_is) (λ i. record { tallies = e.3 i; seen = (e.4 i).0.seen })

use Rattle.std.proofs.Common.{◌≡◌, ℕ, ◌<◌, List, refl, ap, sym, ◌∙◌, subst}
use Rattle.calls.specs.Glossary.{Deed, queued_in, IsBeginning, CallSeatView, NoteView, IsPlaced, calls_in}
use Rattle.calls.specs.declared.view.Act.TheVariants.{LoadQueued}
use Rattle.calls.proofs.Seating.{some_words, queued_there, does_through}
use Rattle.calls.proofs.Sharing.{gives_note, takes_note}
use Rattle.calls.proofs.Looking.{counts_queued_here}
use Rattle.calls.proofs.Loading.{same_count, load_not_below}
use Rattle.calls.proofs.Arriving.{intake_as, same_own_calls}
use Rattle.calls.proofs.seat.CallSeat.load_behind.Goals as goal

pub split_seat-copy-requires : goal.split_seat-copy-requires
split_seat-copy-requires g c =
    let v = c.self.invariant in
    let t = c.deref-2.ensures in
    let placed = subst (λ z. IsPlaced z.shared.key z.shared.table_id c.self.inside.seat) (sym t) v.placed in
    let there = subst (λ z. c.self.inside.processor < z.shared.key.processors) (sym t) v.rests.there in
    let same : c.note.inside.seat.table_id ≡ c.self.inside.seat.table_id = ap (λ (n : NoteView _). n.tallies) c.note.view_is ∙ (c.requires.note ∙ ap (λ (s : CallSeatView _). s.tallies) (sym c.self.view_is)) in
    (same ∙ placed.seated, some_words _ _ _ placed.wide there, gives_note _ _ _)

pub join_seat-requires : goal.join_seat-requires
join_seat-requires g c =
    let v = c.self.invariant in
    let t = c.deref-2.ensures in
    let placed = subst (λ z. IsPlaced z.shared.key z.shared.table_id c.self.inside.seat) (sym t) v.placed in
    let there = subst (λ z. c.self.inside.processor < z.shared.key.processors) (sym t) v.rests.there in
    let same : c.note.inside.seat.table_id ≡ c.self.inside.seat.table_id = ap (λ (n : NoteView _). n.tallies) c.note.view_is ∙ (c.requires.note ∙ ap (λ (s : CallSeatView _). s.tallies) (sym c.self.view_is)) in
    (placed.seated, c.split_seat-copy.ensures.3 ∙ (same ∙ placed.seated), ap (λ m. m.1) c.split_seat-copy.ensures.4, some_words _ _ _ placed.wide there, takes_note _ _ _ _ _)

pub load-requires : goal.load-requires
load-requires g c =
    let v = c.self.invariant in
    let p : ℕ = c.args.processor in
    let t = c.deref-2.ensures in
    let j = c.join_seat.ensures in
    let placed = subst (λ z. IsPlaced z.shared.key z.shared.table_id c.self.inside.seat) (sym t) v.placed in
    let there : p < c.deref-2.result.now.shared.key.processors = subst (λ z. p < z.shared.key.processors) (sym t) (subst (λ (z : CallSeatView _). p < z.processors) (sym c.self.view_is) c.requires.there) in
    (j.0 ∙ placed.seated, queued_there _ _ _ placed.wide there, counts_queued_here _ _ _ c.self.inside.processor p _ c.join_seat.new.seat.me refl (ap (λ m. m.0.role) j.2 ∙ v.rests.who) there)

pub invariant_of-self : goal.invariant_of-self
invariant_of-self g c =
    let v = c.self.invariant in
    let e = c.load.ensures in
    let j = c.join_seat.ensures in
    let who = ap (λ m. m.0.role) j.2 ∙ v.rests.who in
    let q = e.2.1 c.self.inside.processor c.args.processor who refl in record {
      placed = record { seated = e.0 ∙ (j.0 ∙ v.placed.seated); wide = v.placed.wide; bare = e.2.0 ∙ (ap (λ m. m.1) j.2 ∙ v.placed.bare) };
      rests = record { who = q.does.who ∙ who; there = v.rests.there; no_list = q.list ∙ (ap (λ m. m.0.client.list) j.2 ∙ v.rests.no_list); no_batch = q.batch ∙ (ap (λ m. m.0.client.batch) j.2 ∙ v.rests.no_batch) };
      loads = q.does.loads;
      queued = v.queued ∙ sym (same_count _ _ _ _ q.does refl ∙ ap (λ m. queued_in c.self.inside.processor m.0.seen) j.2);
      few = v.few;
      intake = intake_as v.intake (e.0 ∙ j.0) (same_own_calls _ _ _ _ q.does refl ∙ ap (λ m. calls_in c.self.inside.processor m.0.seen) j.2);
    }

pub returns-clause-does : goal.returns-clause-does
returns-clause-does g c =
    let v = c.self.invariant in
    let e = c.load.ensures in
    let j = c.join_seat.ensures in
    let who = ap (λ m. m.0.role) j.2 ∙ v.rests.who in
    let q = e.2.1 c.self.inside.processor c.args.processor who refl in
    let d = does_through c.self.inside.processor (LoadQueued c.args.processor c.load.result) c.self.inside.seat.me.0 c.join_seat.new.seat.me.0 c.load.new.seat.me.0 c.load.new.seat.me.0 (ap (λ m. m.0.seen) j.2) (ap (λ m. m.0.role) j.2) refl refl q.does in
    rw (← c.self.view_is) (record { same = (e.0 ∙ j.0, refl, refl, refl); before = d.before; since = d.since; own = d.own; seen = d.seen; loads = d.loads })

pub returns-clause-covers : goal.returns-clause-covers
returns-clause-covers g c =
    let who = ap (λ m. m.0.role) c.join_seat.ensures.2 ∙ c.self.invariant.rests.who in
    let q = c.load.ensures.2.1 c.self.inside.processor c.args.processor who refl in
    let told = ap (λ m. m.0.told) c.join_seat.ensures.2 ∙ ap (λ m. m.0.seen) c.split_seat-copy.ensures.4 in
    rw (← c.note.view_is) (subst (λ (l : List (Deed _)). IsBeginning l c.load.new.seat.me.0.seen) told q.covers)

pub returns-clause-not_below : goal.returns-clause-not_below
returns-clause-not_below g c =
    let who = ap (λ m. m.0.role) c.join_seat.ensures.2 ∙ c.self.invariant.rests.who in
    let q = c.load.ensures.2.1 c.self.inside.processor c.args.processor who refl in
    let told = ap (λ m. m.0.told) c.join_seat.ensures.2 ∙ ap (λ m. m.0.seen) c.split_seat-copy.ensures.4 in
    rw (← c.note.view_is) (load_not_below c.self.inside.processor c.args.processor c.load.result c.note.inside.seat.me.0.seen c.join_seat.new.seat.me.0 c.load.new.seat.me.0 q.does (subst (λ (l : List (Deed _)). IsBeginning l c.load.new.seat.me.0.seen) told q.covers))

pub returns-clause-same : goal.returns-clause-same
returns-clause-same g c =
    let s = c.split_seat-copy.ensures in
    rw (← c.note.view_is) (λ i. record { tallies = s.0 i; seen = (s.2 i).0.seen })

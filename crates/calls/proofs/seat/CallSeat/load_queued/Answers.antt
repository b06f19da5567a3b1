use Rattle.std.proofs.Common.{ℕ, ◌<◌, refl, sym, ◌∙◌, subst}
use Rattle.calls.specs.Glossary.{CallSeatView, IsPlaced}
use Rattle.calls.proofs.Seating.{queued_there}
use Rattle.calls.proofs.Looking.{counts_queued_here}
use Rattle.calls.proofs.Loading.{same_count}
use Rattle.calls.proofs.Arriving.{intake_as, same_own_calls}
use Rattle.calls.proofs.seat.CallSeat.load_queued.Goals as goal

pub load-requires : goal.load-requires
load-requires g c =
    let v = c.self.invariant in
    let p : ℕ = c.args.processor in
    let t = c.deref-2.ensures in
    let placed = subst (λ z. IsPlaced z.shared.key z.shared.table_id c.self.inside.seat) (sym t) v.placed in
    let there : p < c.deref-2.result.now.shared.key.processors = subst (λ z. p < z.shared.key.processors) (sym t) (subst (λ (z : CallSeatView _). p < z.processors) (sym c.self.view_is) c.requires) in
    (placed.seated, queued_there _ _ _ placed.wide there, counts_queued_here _ _ _ c.self.inside.processor p _ c.self.inside.seat.me refl v.rests.who there)

pub invariant_of-self : goal.invariant_of-self
invariant_of-self g c =
    let v = c.self.invariant in
    let e = c.load.ensures in
    let q = e.2.1 c.self.inside.processor c.args.processor v.rests.who refl in record {
      placed = record { seated = e.0 ∙ v.placed.seated; wide = v.placed.wide; bare = e.2.0 ∙ v.placed.bare };
      rests = record { who = q.does.who ∙ v.rests.who; there = v.rests.there; no_list = q.list ∙ v.rests.no_list; no_batch = q.batch ∙ v.rests.no_batch };
      loads = q.does.loads;
      queued = v.queued ∙ sym (same_count _ _ _ _ q.does refl);
      few = v.few;
      intake = intake_as v.intake (e.0) (same_own_calls _ _ _ _ q.does refl);
    }

pub returns-clause-few : goal.returns-clause-few
returns-clause-few g c = c.load.ensures.2.2

pub returns-clause-does : goal.returns-clause-does
returns-clause-does g c =
    let v = c.self.invariant in
    let e = c.load.ensures in
    let q = e.2.1 c.self.inside.processor c.args.processor v.rests.who refl in
    rw (← c.self.view_is) (record { same = (e.0, refl, refl, refl); before = q.does.before; since = q.does.since; own = q.does.own; seen = q.does.seen; loads = q.does.loads })

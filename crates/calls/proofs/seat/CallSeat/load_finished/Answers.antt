use Rattle.std.proofs.Common.{rules, ℕ, ◌<◌, refl, sym, ◌∙◌, subst, arith}
use Rattle.calls.specs.Glossary.{AreTakers, CallSeatView, IsPlaced, IsOfCaller}
use Rattle.calls.proofs.Loading.{same_count}
use Rattle.calls.proofs.Arriving.{intake_as, same_own_calls}
use Rattle.calls.proofs.seat.CallSeat.load_finished.Goals as goal

pub count_finished-requires : goal.count_finished-requires
count_finished-requires g c = (
  omega arith,
  (
    search rules,
    (
      (let p : ℕ = c.args.processor in
          let t = c.deref-2.ensures in
          let there : p < c.deref-2.result.now.shared.key.processors = subst (λ z. p < z.shared.key.processors) (sym t) (subst (λ (z : CallSeatView _). p < z.processors) (sym c.self.view_is) c.requires) in
          (p, refl, there)),
      (
        subst (λ z. IsPlaced z.shared.key z.shared.table_id c.self.inside.seat) (sym c.deref-2.ensures) c.self.invariant.placed,
        (let v = c.self.invariant in
            subst (λ z. IsOfCaller z.shared.key c.self.inside.seat.me.0) (sym c.deref-2.ensures) (c.self.inside.processor, v.rests.who, v.rests.there)),
      ),
    ),
  ),
)

pub invariant_of-self : goal.invariant_of-self
invariant_of-self g c =
    let v = c.self.invariant in
    let e = c.count_finished.ensures in
    let q = e.looks c.self.inside.processor c.args.processor v.rests.who refl in record {
      placed = record { seated = e.table ∙ v.placed.seated; wide = v.placed.wide; bare = e.bare ∙ v.placed.bare };
      rests = record { who = q.does.who ∙ v.rests.who; there = v.rests.there; no_list = q.list ∙ v.rests.no_list; no_batch = q.batch ∙ v.rests.no_batch };
      loads = q.does.loads;
      queued = v.queued ∙ sym (same_count _ _ _ _ q.does refl);
      few = v.few;
      intake = intake_as v.intake (e.table) (same_own_calls _ _ _ _ q.does refl);
    }

pub returns-clause-does : goal.returns-clause-does
returns-clause-does g c =
    let v = c.self.invariant in
    let e = c.count_finished.ensures in
    let q = e.looks c.self.inside.processor c.args.processor v.rests.who refl in
    rw (← c.self.view_is) (record { same = (e.table, refl, refl, refl); before = q.does.before; since = q.does.since; own = q.does.own; seen = q.does.seen; loads = q.does.loads })

pub returns-clause-within : goal.returns-clause-within
returns-clause-within g c = c.count_finished.ensures.within c.args.processor refl

pub returns-clause-takers : goal.returns-clause-takers
returns-clause-takers g c = rw (← c.self.view_is) (subst (λ z. AreTakers z.shared.key.processors c.count_finished.new.seat.me.0.seen) c.deref-2.ensures c.count_finished.ensures.takers)

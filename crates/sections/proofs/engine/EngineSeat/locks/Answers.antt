use Rattle.std.proofs.Common.{rules, ◌≡◌, ◌^◌, ◌<◌, ◌≤◌, ℕ, sym, ap, ◌∙◌, subst, arith}
use Rattle.sections.specs.Glossary.{EngineView, word_count, number_word, all_locks}
use Rattle.sections.proofs.Agreement.{lock_there}
use Rattle.onedom.specs.declared.event.Maker.TheVariants.{Engine}
use Rattle.sections.proofs.Deeds.{engine_makes}
use Rattle.sections.proofs.EngineSteps.{counts_locks}
use Rattle.sections.proofs.Seating.{rests_seen}
use Rattle.sections.proofs.EngineViews.{takes_step}
use Rattle.sections.proofs.engine.EngineSeat.locks.Goals as goal

pub load-requires : goal.load-requires
load-requires g c =
    let wide : c.deref.result.now.shared.table_id.words ≡ word_count c.deref.result.now.shared.key.processors c.deref.result.now.shared.key.cells = search rules in
    let there : c.args.processor < c.deref.result.now.shared.key.processors = (let lt = subst (λ (z : EngineView). c.args.processor < z.processors) (sym c.self.view_is) c.requires in rw c.deref.ensures lt) in
    (search rules, rw (c.place_of_lock.ensures, wide) (lock_there _ _ _ _ there), counts_locks _ _ _ _ _ Engine c.args.processor c.args.index (search rules) (engine_makes _ _ c.self.invariant.role) there c.place_of_lock.ensures)

pub invariant_of-self : goal.invariant_of-self
invariant_of-self g c =
    let e = c.self.invariant in
    let told = c.load.ensures in
    let sees = (told.2.2 c.args.processor c.args.index c.place_of_lock.ensures).0 in
    let still = told.2.1 _ e.role in
    let few = e.few in record {
      placed = record { seated = told.0 ∙ e.placed.seated; wide = e.placed.wide; cells = e.placed.cells; bare = told.2.0 ∙ e.placed.bare; sized = sees.processors ∙ e.placed.sized };
      rests = rests_seen _ _ _ e.rests.free sees;
      role = sees.role ∙ e.role;
      processors = e.processors;
      number = e.number ∙ ap number_word (sym still);
      periods = e.periods;
      small = e.small;
      some = e.some;
      few = omega (arith, few, still);
    }

pub returns : goal.returns
returns g c =
    let e = c.self.invariant in
    let told = c.load.ensures in
    let sees = told.2.2 c.args.processor c.args.index c.place_of_lock.ensures in
    rw (← c.self.view_is) (record { step = takes_step _ _ _ _ _ _ _ _ _ told.0 e.placed.sized e.role (told.2.1 _ e.role) sees.0; exact = sees.1; bound = subst (λ (n : ℕ). all_locks n c.args.index c.load.new.seat.me.0.seen ≤ 2 ^ 60) e.placed.sized sees.2 })

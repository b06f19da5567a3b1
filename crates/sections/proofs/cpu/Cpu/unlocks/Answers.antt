use Rattle.std.proofs.Common.{rules, ◌≡◌, ◌^◌, ◌<◌, ◌≤◌, ℕ, refl, sym, ◌∙◌, subst}
use Rattle.onedom.specs.declared.event.Maker.TheVariants.{Processor}
use Rattle.sections.specs.Glossary.{CpuView, word_count, all_locks}
use Rattle.sections.proofs.Agreement.{unlock_there}
use Rattle.sections.proofs.Deeds.{cpu_makes}
use Rattle.sections.proofs.Seating.{rests_seen}
use Rattle.sections.proofs.EngineSteps.{counts_unlocks}
use Rattle.sections.proofs.CpuViews.{loads_from}
use Rattle.sections.proofs.Staying.{stays_seen}
use Rattle.sections.proofs.cpu.Cpu.unlocks.Goals as goal

pub load-requires : goal.load-requires
load-requires g c =
    let wide : c.deref.result.now.shared.table_id.words ≡ word_count c.deref.result.now.shared.key.processors c.deref.result.now.shared.key.cells = search rules in
    let there : c.args.processor < c.deref.result.now.shared.key.processors = (let lt = subst (λ (z : CpuView). c.args.processor < z.processors) (sym c.self.view_is) c.requires in rw c.deref.ensures lt) in
    (search rules, rw (c.place_of_unlock.ensures, wide) (unlock_there _ _ _ _ there), counts_unlocks _ _ _ _ _ (Processor c.self.inside.processor) c.args.processor c.args.index (search rules) (cpu_makes _ _ c.self.invariant.role) there c.place_of_unlock.ensures)

pub invariant_of-self : goal.invariant_of-self
invariant_of-self g c =
    let told = c.load.ensures in
    let sees = (told.2.2 c.args.processor c.args.index c.place_of_unlock.ensures).0 in
    stays_seen c.self.invariant told.0 (told.2.0 ∙ c.self.invariant.placed.bare) (rests_seen _ _ _ c.self.invariant.rests.free sees) refl refl sees

pub returns : goal.returns
returns g c =
    let e = c.self.invariant in
    let told = c.load.ensures in
    let sees = told.2.2 c.args.processor c.args.index c.place_of_unlock.ensures in
    rw (← c.self.view_is) (record { load = loads_from _ _ _ _ _ _ _ _ told.0 e.placed.sized e.role sees.0; exact = sees.1; bound = subst (λ (n : ℕ). all_locks n c.args.index c.load.new.seat.me.0.seen ≤ 2 ^ 60) e.placed.sized sees.2 })

use Rattle.std.proofs.Common.{rules, ◌≡◌, sym, subst, arith}
use Rattle.sections.specs.Glossary.{EngineView, word_count, IsBeforeFlip}
use Rattle.sections.proofs.EngineSteps.{flips_here}
use Rattle.sections.proofs.Seating.{some_words}
use Rattle.sections.proofs.engine.EngineSeat.flip.Goals as goal

pub fetch_add-before-requires : goal.fetch_add-before-requires
fetch_add-before-requires g c =
    let e = c.self.invariant in
    let wide : c.deref.result.now.shared.table_id.words ≡ word_count c.deref.result.now.shared.key.processors c.deref.result.now.shared.key.cells = search rules in
    let here : IsBeforeFlip c.self.inside.seat.me.0.changes = subst (λ (z : EngineView). IsBeforeFlip z.changes) (sym c.self.view_is) c.requires.running in
    let few = e.few in
    let small = e.small in
    (search rules, some_words _ _ _ wide, flips_here _ _ _ _ _ (search rules) e.role here (omega (arith, few, small, here)))

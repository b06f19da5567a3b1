use Rattle.std.proofs.Common.{rules, ◌≡◌, sym, subst, arith}
use Rattle.sections.specs.Glossary.{EngineView, word_count, IsFlipping}
use Rattle.sections.proofs.EngineSteps.{moves_on_here}
use Rattle.sections.proofs.Seating.{two_words}
use Rattle.sections.proofs.engine.EngineSeat.add_scan2.Goals as goal

pub fetch_add-requires : goal.fetch_add-requires
fetch_add-requires g c =
    let e = c.self.invariant in
    let wide : c.deref.result.now.shared.table_id.words ≡ word_count c.deref.result.now.shared.key.processors c.deref.result.now.shared.key.cells = search rules in
    let here : IsFlipping c.self.inside.seat.me.0.changes = subst (λ (z : EngineView). IsFlipping z.changes) (sym c.self.view_is) c.requires in
    let few = e.few in
    let small = e.small in
    (search rules, two_words _ _ _ wide, moves_on_here _ _ _ _ _ (search rules) e.role here (omega (arith, few, small, here)))

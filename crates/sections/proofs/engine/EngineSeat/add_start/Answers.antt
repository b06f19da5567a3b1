use Rattle.std.proofs.Common.{rules, ◌≡◌, ◌*◌, ◌<◌, sym, subst, arith}
use Rattle.sections.specs.Glossary.{EngineView, word_count, number_word, IsIdle}
use Rattle.sections.proofs.EngineSteps.{starts_here}
use Rattle.sections.proofs.Seating.{two_words}
use Rattle.sections.proofs.engine.EngineSeat.add_start.Goals as goal

pub fetch_add-requires : goal.fetch_add-requires
fetch_add-requires g c =
    let e = c.self.invariant in
    let wide : c.deref.result.now.shared.table_id.words ≡ word_count c.deref.result.now.shared.key.processors c.deref.result.now.shared.key.cells = search rules in
    let idle : IsIdle c.self.inside.seat.me.0.changes = subst (λ (z : EngineView). IsIdle z.changes) (sym c.self.view_is) c.requires.idle in
    let room : number_word c.self.inside.seat.me.0.changes < 4 * c.self.inside.periods = subst (λ (z : EngineView). number_word z.changes < 4 * z.periods) (sym c.self.view_is) c.requires.room in
    let periods = e.periods in
    let small = e.small in
    (search rules, two_words _ _ _ wide, starts_here _ _ _ _ _ (search rules) e.role idle (rw c.deref.ensures (omega (arith, room, periods))) (rw c.deref.ensures (omega (arith, periods, small))))

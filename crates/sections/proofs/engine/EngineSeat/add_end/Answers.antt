use Rattle.std.proofs.Common.{rules, ◌≡◌, sym, subst, arith}
use Rattle.sections.specs.Glossary.{EngineView, word_count, IsBehindFlip}
use Rattle.sseq.specs.declared.index.Index.{Index}
use Rattle.onedom.specs.Histories.{WasEmpty}
use Rattle.sections.proofs.EngineSteps.{finishes_here}
use Rattle.sections.proofs.Seating.{two_words}
use Rattle.sections.proofs.EngineViews.{all_closed}
use Rattle.sections.proofs.engine.EngineSeat.add_end.Goals as goal

pub fetch_add-requires : goal.fetch_add-requires
fetch_add-requires g c =
    let e = c.self.invariant in
    let wide : c.deref.result.now.shared.table_id.words ≡ word_count c.deref.result.now.shared.key.processors c.deref.result.now.shared.key.cells = search rules in
    let here : IsBehindFlip c.self.inside.seat.me.0.changes = subst (λ (z : EngineView). IsBehindFlip z.changes) (sym c.self.view_is) c.requires.flipped in
    let empty : (i : Index) → WasEmpty i c.self.inside.seat.me.0.seen = subst (λ (z : EngineView). (i : Index) → WasEmpty i z.seen) (sym c.self.view_is) c.requires.empty in
    let few = e.few in
    let small = e.small in
    (search rules, two_words _ _ _ wide, finishes_here _ _ _ _ _ (search rules) e.role here (omega (arith, few, small, here)) e.rests.sound.reaches empty)

pub returns-clause-closed : goal.returns-clause-closed
returns-clause-closed g c =
    let e = c.self.invariant in
    let here : IsBehindFlip c.self.inside.seat.me.0.changes = subst (λ (z : EngineView). IsBehindFlip z.changes) (sym c.self.view_is) c.requires.flipped in
    rw (← c.self.view_is) (all_closed _ _ here c.fetch_add.ensures.2.2 e.rests.sound.reaches c.fetch_add.ensures.2.3)

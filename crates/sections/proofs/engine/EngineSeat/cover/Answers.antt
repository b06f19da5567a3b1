use Rattle.std.proofs.Common.{sym, ap, ◌∙◌, subst, arith}
use Rattle.sections.specs.Glossary.{number_word, IsPlaced}
use Rattle.onedom.specs.declared.event.Maker.TheVariants.{Engine}
use Rattle.sections.proofs.Deeds.{engine_makes}
use Rattle.sections.proofs.EngineViews.{covers_engine}
use Rattle.sections.proofs.engine.EngineSeat.cover.Goals as goal

pub invariant_of-self : goal.invariant_of-self
invariant_of-self g c =
    let e = c.self.invariant in
    let h = c.cover.ensures.first in
    let still = h.driven _ e.role in
    let few = e.few in record {
      placed = subst (λ t. IsPlaced t.shared.key t.shared.table_id c.cover.new.first) c.deref.ensures c.cover.ensures.placed;
      rests = record { free = h.right; told = h.told; sound = h.sound };
      role = h.role ∙ e.role;
      processors = e.processors;
      number = e.number ∙ ap number_word (sym still);
      periods = e.periods;
      small = e.small;
      some = e.some;
      few = omega (arith, few, still);
    }

pub returns-clause-engine : goal.returns-clause-engine
returns-clause-engine g c =
    let e = c.self.invariant in
    let moved = c.cover.ensures.placed.seated ∙ (ap (λ t. t.shared.table_id) c.deref.ensures ∙ sym e.placed.seated) in
    rw (← c.self.view_is, ← c.cpu.view_is) (covers_engine _ _ _ _ _ c.self.inside.seat.me.0 c.cpu.inside.seat.me.0 c.cover.new.first.me.0 moved e.placed.sized e.role c.cover.ensures.first)

pub cover-requires-clause-maker : goal.cover-requires-clause-maker
cover-requires-clause-maker g c = (Engine, engine_makes _ _ c.self.invariant.role)

use Rattle.std.proofs.Common.{sym, ap, ◌∙◌}
use Rattle.onedom.specs.declared.event.Maker.TheVariants.{Processor}
use Rattle.sections.proofs.Deeds.{cpu_makes}
use Rattle.sections.proofs.Meeting.{hears_from}
use Rattle.sections.proofs.cpu.Cpu.recall.Goals as goal

pub cover-requires-clause-maker : goal.cover-requires-clause-maker
cover-requires-clause-maker g c = (Processor c.self.inside.processor, cpu_makes _ _ c.self.invariant.role)

pub returns-clause-hears : goal.returns-clause-hears
returns-clause-hears g c =
    let e = c.self.invariant in
    let moved = c.cover.ensures.placed.seated ∙ (ap (λ t. t.shared.table_id) c.deref.ensures ∙ sym e.placed.seated) in
    rw (← c.self.view_is, ← c.found.view_is) (hears_from _ _ _ _ _ c.self.inside.seat.me.0 c.found.inside.seat.me.0 c.cover.new.first.me.0 moved e.placed.sized e.role c.cover.ensures.first)

pub returns-clause-texts : goal.returns-clause-texts
returns-clause-texts g c = rw (← c.found.view_is) c.cover.ensures.first.brings

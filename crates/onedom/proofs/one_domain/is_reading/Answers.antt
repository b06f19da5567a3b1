use Rattle.std.proofs.Common.{◌∙◌}
use Rattle.onedom.specs.declared.event.Event.TheVariants.{Find}
use Rattle.onedom.proofs.Cells.{reads}
use Rattle.onedom.proofs.one_domain.is_reading.Goals as goal

pub returns-then-found-slot : goal.returns-then-found-slot
returns-then-found-slot c =
    reads c.args.history.now c.args.cell c.args.slot c.in-Find.section c.in-Find.version c.in-Find.by c.is_open.result c.args.event
    (c.in-Find.is ∙ (λ k. Find c.in-Find.section (c.if-found-slot.true.0 k) (c.if-found-slot.true.1 k) c.in-Find.version c.in-Find.by)) c.is_open.ensures

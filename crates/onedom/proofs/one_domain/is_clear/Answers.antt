use Rattle.std.proofs.Common.{◌∙◌, sym}
use Rattle.onedom.proofs.Cells.{clear_as}
use Rattle.onedom.proofs.one_domain.is_clear.Goals as goal

pub returns : goal.returns
returns c = clear_as c.args.history.now c.args.cell c.args.slot c.is_found.result (λ e. c.if-slot-slot_of.false (e ∙ sym c.slot_of.ensures)) c.is_found.ensures

use Rattle.onedom.proofs.Cells.{IsUnreadUpto}
use Rattle.onedom.proofs.one_domain.is_found.Given as goal

abbrev pub invariant-loop-event : goal.invariant-loop-event
invariant-loop-event l = IsUnreadUpto l.history l.cell l.slot l.event-index

use Rattle.std.proofs.Common.{arith}
use Rattle.intake.proofs.Passing.{looks}
use Rattle.intake.proofs.handover.Handover.new.Goals as goal

pub swap_new_seat-found-requires : goal.swap_new_seat-found-requires
swap_new_seat-found-requires g c = let one = c.in_ok-table.ensures.0 in (omega (arith, one), looks _ _ c.in_ok-table.table.shared.key)

use Rattle.std.proofs.Common.{Some, ap, sym, ◌∙◌, ◌∷◌, arith}
use Rattle.atomic_table.specs.Table.{rest}
use Rattle.intake.proofs.Passing.{looks}
use Rattle.intake.proofs.handover.Handover.take.Goals as goal

pub swap_new_seat-found-requires : goal.swap_new_seat-found-requires
swap_new_seat-found-requires g c = let one = c.self.invariant.0 in (omega (arith, one), looks _ _ c.self.inside.table.shared.key)

pub exchange-requires : goal.exchange-requires
exchange-requires g c = let t = c.swap_new_seat-found.ensures.1.0 c.if-found-eq-THERE.true in
    (c.swap_new_seat-found.ensures.0, (Some t.0, t.1 ∙ ap (λ l. (0, Some t.0) ∷ rest l) (sym t.1)))

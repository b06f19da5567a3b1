-- A swap that finds 0 takes the value.
use Rattle.std.proofs.Common.{Some, ap, sym, ◌∙◌, ◌∷◌, arith}
use Rattle.atomic_table.specs.Table.{rest}
use Rattle.trail.proofs.Keeping.{seizes}
use Rattle.trail.proofs.trail.Trail.take.Goals as goal

pub swap_new_seat-found-requires : goal.swap_new_seat-found-requires
swap_new_seat-found-requires g c = let one = c.self.invariant.0 in (omega (arith, one), seizes g.T.Lies.fits g.T.Lies.state g.T.Lies.goes c.self.inside.table.shared.key _)

pub exchange-requires : goal.exchange-requires
exchange-requires g c = let t = c.swap_new_seat-found.ensures.1 c.if-found-eq0.true in
    (c.swap_new_seat-found.ensures.0, (Some t.value, t.slot ∙ ap (λ l. (0, Some t.value) ∷ rest l) (sym t.slot)))

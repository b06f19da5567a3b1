-- The value fits, and nothing lies there any more.
use Rattle.std.proofs.Common.{None, ◌∷◌, refl, ap, ◌∙◌, arith}
use Rattle.atomic_table.specs.Table.{rest}
use Rattle.mailbox.proofs.Keeping.{lays}
use Rattle.mailbox.proofs.mailbox.Mailbox.take.Goals as goal

pub store-requires : goal.store-requires
store-requires g c =
    let one = c.self.invariant.0 in
    let h = c.in_ok-seat.ensures in (
      c.exchange.ensures.0 ∙ h.table,
      omega (arith, one),
      lays g.T.Posted.fits c.self.inside.table.shared.key.key _ _ _ None 2 0 c.self.invariant.1 (ap (λ m. m.1) c.exchange.ensures.3 ∙ ap (λ l. (0, None) ∷ rest l) h.has.slot) (ap (λ m. m.0.pins) c.exchange.ensures.3 ∙ h.has.pins)
          (λ e. absurd (omega (arith, e)))
          (λ _. refl)
          (λ no. absurd (no refl))
          (λ e. absurd (omega (arith, e))),
    )

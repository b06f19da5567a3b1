-- The value lies there.
use Rattle.std.proofs.Common.{Some, ◌∷◌, refl, ap, sym, ◌∙◌, subst, arith}
use Rattle.atomic_table.specs.Table.{rest}
use Rattle.mailbox.proofs.Keeping.{lays}
use Rattle.mailbox.proofs.mailbox.Mailbox.post.Goals as goal

pub store-requires : goal.store-requires
store-requires g c =
    let one = c.self.invariant.0 in
    let h = c.in-Some.ensures in (
      c.exchange-nothing.ensures.0 ∙ h.table,
      omega (arith, one),
      lays g.T.Posted.fits c.self.inside.table.shared.key.key _ _ _ (Some c.args.value) 0 0 c.self.invariant.1 (ap (λ m. m.1) c.exchange-nothing.ensures.3 ∙ ap (λ l. (0, Some c.args.value) ∷ rest l) h.has.slot) (ap (λ m. m.0.pins) c.exchange-nothing.ensures.3 ∙ h.has.pins)
          (λ _. (c.args.value, refl, subst (λ k. g.T.Posted.fits c.args.value k) (sym (ap (λ m. m.key) c.self.view_is)) c.requires))
          (λ le. absurd (omega (arith, le)))
          (λ no. absurd (no refl))
          (λ e. absurd (omega (arith, e))),
    )

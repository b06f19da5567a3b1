-- The value lies there again.
use Rattle.std.proofs.Common.{◌∷◌, Some, ap, sym, subst, ◌∙◌, arith}
use Rattle.atomic_table.specs.Table.{rest}
use Rattle.trail.specs.Calls.{IsLeft}
use Rattle.trail.proofs.Keeping.{releases}
use Rattle.trail.proofs.trail.Trail.put_back.Goals as goal

pub store-requires : goal.store-requires
store-requires g c = let wide = c.self.invariant.0 in (
  c.exchange.ensures.0 ∙ (ap (λ l. l.lock) c.loan.view_is ∙ (c.requires.lock ∙ sym (ap (λ k. k.lock) c.self.view_is))),
  omega (arith, wide),
  releases g.T.Lies.fits g.T.Lies.state g.T.Lies.goes c.self.inside.table.shared.key _ _ _ c.loan.inside.seat.me.0 c.args.value c.self.invariant.1
      (c.exchange.ensures.3 ∙ ap (λ l. (c.loan.inside.seat.me.0, (0, Some c.args.value) ∷ rest l)) c.loan.invariant.0)
      c.loan.invariant.1
      (subst (λ k. g.T.Lies.fits k c.args.value) (sym (ap (λ k. k.key) c.self.view_is)) c.requires.fits)
      (subst (λ l. IsLeft g.T.Lies.goes l (g.T.Lies.state c.args.value)) (sym (ap (λ l. l.seen) c.loan.view_is)) c.requires.goes),
)

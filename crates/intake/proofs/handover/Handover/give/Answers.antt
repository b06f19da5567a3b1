use Rattle.std.proofs.Common.{ap, sym, ◌∙◌, subst, arith}
use Rattle.intake.proofs.Passing.{lays_there}
use Rattle.intake.proofs.handover.Handover.give.Goals as goal

pub store-requires : goal.store-requires
store-requires g c = let one = c.self.invariant.0 in (
  c.exchange.ensures.0 ∙ (c.giver.view_is ∙ (c.requires.giver ∙ sym (ap (λ k. k.place) c.self.view_is))),
  omega (arith, one),
  lays_there g.T.Fitting.fits c.self.inside.table.shared.key _ _ _ _ _ _ c.self.invariant.1 c.exchange.ensures.3 (subst (λ z. g.T.Fitting.fits c.args.value z) (sym (ap (λ k. k.key) c.self.view_is)) c.requires.value),
)

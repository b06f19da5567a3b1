-- The sight is told what the other one had seen, and a load covers both.
use Rattle.std.proofs.Common.{ap, sym, ◌∙◌, arith}
use Rattle.trail.proofs.Keeping.{informs, looks, only_one}
use Rattle.trail.proofs.trail.Trail.hear.Goals as goal

pub join_seat-requires : goal.join_seat-requires
join_seat-requires g c =
    let wide = c.self.invariant.0 in
    let v = c.sight.invariant in
    let w = c.other.invariant in (
      c.into_seat-seat.ensures.0 ∙ (ap (λ s. s.lock) c.sight.view_is ∙ (c.requires.lock ∙ sym (ap (λ k. k.lock) c.self.view_is))),
      c.into_seat.ensures.0 ∙ (ap (λ s. s.lock) c.other.view_is ∙ (c.requires.other ∙ sym (ap (λ k. k.lock) c.self.view_is))),
      c.into_seat.ensures.3,
      omega (arith, wide),
      informs g.T.Lies.fits g.T.Lies.state g.T.Lies.goes c.self.inside.table.shared.key _ _ _ _ (ap (λ z. z.has) (only_one _ _ _ c.into_seat-seat.ensures.2 v.1) ∙ v.2) (ap (λ z. z.has) (only_one _ _ _ c.into_seat.ensures.2 w.1) ∙ w.2),
    )

pub load-requires : goal.load-requires
load-requires g c =
    let wide = c.self.invariant.0 in
    let v = c.sight.invariant in (
      c.join_seat.ensures.0 ∙ (c.into_seat-seat.ensures.0 ∙ (ap (λ s. s.lock) c.sight.view_is ∙ (c.requires.lock ∙ sym (ap (λ k. k.lock) c.self.view_is)))),
      omega (arith, wide),
      looks g.T.Lies.fits g.T.Lies.state g.T.Lies.goes c.self.inside.table.shared.key _ _ _ (ap (λ m. m.0.has) c.join_seat.ensures.2 ∙ (ap (λ z. z.has) (only_one _ _ _ c.into_seat-seat.ensures.2 v.1) ∙ v.2)),
    )

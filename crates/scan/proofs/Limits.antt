-- No answer tells a number beyond the limit.
use Rattle.std.proofs.Common.{ℕ, ◌*◌, ◌≤◌, List, [], ◌∷◌, Some, None, ◌∙◌, subst, arith}
use Rattle.std.specs.Prelude.{Option, IfSome}
use Rattle.sections.specs.EngineCalls.{IsSameEngine}
use Rattle.desk.specs.BayViews.{BaySeatView}
use Rattle.scan.specs.Glossary.{Progress, Pace, Standing, number_at_rest, Says, IsWithin, ScanView, AtWork, at_work, Stage, AdvancesThrough, Paces, IsOfStation, IsWithinLimit}
use Rattle.scan.specs.declared.progress.Progress.TheVariants as answer
use Rattle.scan.specs.declared.progress.Pace.TheVariants as pace

says_within : (a : Progress) (need : ℕ) (s s' : Standing) → Says a need s s' → number_at_rest s'.history ≤ 4 * s'.periods → IsWithin s'.periods a
says_within answer.Idle need s s' says most = tt
says_within (answer.Started n) need s s' says most = let is = says.0 in let room = says.2 in omega (arith, is, room)
says_within (answer.Flipped i) need s s' says most = tt
says_within (answer.Ended n) need s s' says most = let is = says.0 in omega (arith, is, most)
says_within (answer.Waiting i) need s s' says most = tt
says_within answer.Step need s s' says most = tt

-- what holds of the engine's own limit holds of the place's
of_first : (first : Option ScanView) (found w : ScanView) (a : Progress) → IfSome first (λ y. IsSameEngine y.seat found.seat) → IsSameEngine found.seat w.seat → IsWithin w.seat.periods a → IfSome first (λ v. IsWithin v.seat.periods a)
of_first None found w a like same h = tt
of_first (Some v) found w a like same h = subst (λ p. IsWithin p a) (same.2 ∙ like.2) h

module _ {N : Type 0} where
  -- the last of several answers
  through_within : (loads : N → ℕ → N → Type 0) (ss : List (Stage N)) (v w : AtWork N) (a : Progress) → AdvancesThrough loads ss v a w → number_at_rest w.seat.seen ≤ 4 * w.seat.periods → IsWithin w.seat.periods a
  through_within loads [] v w a h most = says_within a _ _ _ h.answered.says most
  through_within loads (s ∷ ss) v w a h most = through_within loads ss s.engine w a h.2 most

  module _ (t : BaySeatView ScanView) (found w : ScanView) (loads : N → ℕ → N → Type 0) (n n' : N) (a : Progress) (size : IsOfStation t found) (most : number_at_rest w.seat.seen ≤ 4 * w.seat.periods) where
    pub paced_within : (p : Pace) → Paces loads p (at_work n found) a (at_work n' w) → IsWithinLimit t a
    paced_within pace.Step h = of_first t.first found w a size h.goes_on.same (says_within a _ _ _ h.step.answered.says most)
    paced_within pace.Answer h = of_first t.first found w a size h.goes_on.same (says_within a _ _ _ h.answered.says most)
    paced_within pace.Period h = of_first t.first found w a size h.same (through_within loads h.stages _ _ a h.through most)

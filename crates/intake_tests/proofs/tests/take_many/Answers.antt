use Rattle.std.proofs.Common.{◌≡◌, ◌+◌, ℕ, List, length, ap, ◌∙◌}
use Rattle.intake_tests.specs.declared.tests.Numbered.{Numbered}
use Rattle.intake.proofs.Keeping.{followed}
use Rattle.intake_tests.proofs.tests.take_many.Goals as goal

pub prove-unreachable-requires : goal.prove-unreachable-requires
prove-unreachable-requires g c = c.if-prove.true (followed (λ (key : ℕ) (front : List Numbered) (x : Numbered). x.number ≡ key + length front) 7 _ _ _ c.loop.invariant.key c.in-Some-pop.ensures.follows_is ∙ ap (λ n. 7 + n) c.loop.invariant.taken)

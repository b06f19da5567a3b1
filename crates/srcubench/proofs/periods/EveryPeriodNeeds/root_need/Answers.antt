-- A look is one load, and the greatest number is one.
use Rattle.std.proofs.Common.{ℕ, ◌^◌, Option, Some, None, [], ◌∷◌, length, refl, ap, ◌∙◌, length-append, arith}
use Rattle.std.specs.Option.{IsSome, SomeIff}
use Rattle.sseq.specs.Numbers.{IsNumber}
use Rattle.sections.specs.declared.view.Step.TheVariants.{LoadIndex}
use Rattle.srcubench.proofs.periods.EveryPeriodNeeds.root_need.Goals as goal

some_greatest : (r : Option ℕ) → SomeIff r (IsNumber (2 ^ 61)) (2 ^ 61) → IsSome r
some_greatest None none = absurd (none (record { state_below_3 = omega arith; small = omega arith }))
some_greatest (Some n) is = refl

pub unwrap-requires : goal.unwrap-requires
unwrap-requires c = some_greatest _ c.new.ensures

pub returns : goal.returns
returns c = record {
  greatest = (rw c.unwrap.ensures at c.new.ensures).1;
  once = ap length c.look.ensures.load.steps ∙ length-append c.args.self.now.cpu.steps (LoadIndex c.look.ensures.value ∷ []);
}

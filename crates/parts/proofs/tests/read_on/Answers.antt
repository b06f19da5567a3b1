use Rattle.std.proofs.Common.{ap, ◌∙◌, ◌<◌, subst, sym}
use Rattle.parts.specs.declared.part.Part.{Part}
use Rattle.parts.proofs.CallerLemmas.{regained}
use Rattle.parts.proofs.tests.read_on.Goals as goal

pub loop-preserved : goal.loop-preserved
loop-preserved c = regained c.loop.part c.split-one.new.self c.split-one.result c.join.new.self 1 (subst (λ (z : Part _). 1 < z.count) (sym c.loop.invariant) c.requires)
    c.split-one.ensures.rest (ap (λ (z : Part _). z.count) c.split-one.ensures.part) c.join.ensures.sum ∙ c.loop.invariant

use Rattle.std.proofs.Common.{ap, ◌<◌, subst, sym}
use Rattle.parts.specs.declared.part.Part.{Part}
use Rattle.parts.proofs.CallerLemmas.{regained}
use Rattle.parts.proofs.tests.swap_one.Goals as goal

pub returns : goal.returns
returns c = (
  regained c.args.first.now c.split-one.new.self c.split-other.result c.join.new.self 1 c.requires.0 c.split-one.ensures.rest (ap (λ (z : Part _). z.count) c.split-other.ensures.part) c.join.ensures.sum,
  regained c.args.second.now c.split-other.new.self c.split-one.result c.join-2.new.self 1 (subst (λ (z : Part _). 1 < z.count) (sym c.requires.1) c.requires.0)
      c.split-other.ensures.rest (ap (λ (z : Part _). z.count) c.split-one.ensures.part) c.join-2.ensures.sum,
)

use Rattle.std.proofs.Common.{ap, sym, ◌∙◌}
use Rattle.intake.proofs.Lazily.{begun_before, begun_now}
use Rattle.intake.proofs.lazy.begin.Goals as goal

pub returns-then-is_some : goal.returns-then-is_some
returns-then-is_some g c = begun_before c.args.place.now c.args.giver.now c.args.inlet.now (sym c.is_some.ensures ∙ c.if-is_some.true) c.requires

pub returns : goal.returns
returns g c = begun_now c.args.place.now.key c.args.inlet.now c.in_ok-first.first (sym c.is_some.ensures ∙ c.if-is_some.false) (ap (λ i. i.key) c.in_ok-first.ensures.inlet_is) (ap (λ i. i.pushed) c.in_ok-first.ensures.inlet_is)

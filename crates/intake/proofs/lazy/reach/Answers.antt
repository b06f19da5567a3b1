use Rattle.std.proofs.Common.{ap, ◌∙◌}
use Rattle.std.specs.Prelude.{not}
use Rattle.intake.proofs.Lazily.{reached_before, reached_now}
use Rattle.intake.proofs.lazy.reach.Goals as goal

pub returns-then-is_none : goal.returns-then-is_none
returns-then-is_none g c = reached_now c.args.place.now.key c.args.outlet.now c.take.result (c.is_none.ensures ∙ ap not c.if-is_none.true) c.take.ensures.0 c.take.ensures.1

pub returns-else-is_none : goal.returns-else-is_none
returns-else-is_none g c = reached_before c.args.place.now.key c.args.outlet.now (c.is_none.ensures ∙ ap not c.if-is_none.false) c.requires

use Rattle.std.proofs.Common.{◌∙◌}
use Rattle.std.proofs.lemmas.List.Elements.{All-set}
use Rattle.funnel.specs.Calls.{IsOfProcessor}
use Rattle.funnel.proofs.tests.ask_at.Goals as goal

pub returns : goal.returns
returns c = let a = c.ask.ensures.asks in All-set IsOfProcessor c.args.seats.now c.args.processor c.ask.new.self (a.processor, a.same.holder ∙ a.asker) c.requires

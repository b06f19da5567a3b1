-- It was the plug of the key.
use Rattle.std.proofs.Common.{ℕ, Option, Some, ap, ◌∙◌, subst}
use Rattle.srcubench.specs.Tabling.{Looks}
use Rattle.srcubench.proofs.looking.look_once.Goals as goal

pub returns-then-plug-eq-KEY : goal.returns-then-plug-eq-KEY
returns-then-plug-eq-KEY c = subst (λ (o : Option ℕ). Looks c.args.leased c.args.view.now.cell o c.args.cpu.now c.find_plug.new.cpu) (c.in-Some.is ∙ ap (λ (n : ℕ). Some n) c.if-plug-eq-KEY.true) c.in_ok-found.ensures

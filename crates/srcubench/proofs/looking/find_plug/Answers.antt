-- One way or the other.
use Rattle.std.proofs.Common.{IfOk, sym, subst}
use Rattle.srcubench.specs.Tabling.{Looks}
use Rattle.srcubench.proofs.looking.find_plug.Goals as goal

pub returns-then-leased : goal.returns-then-leased
returns-then-leased c = subst (λ b. IfOk c.lease_once.result (λ plug. Looks b c.args.view.now.cell plug c.args.cpu.now c.lease_once.new.cpu)) (sym c.if-leased.true) c.lease_once.ensures

pub returns : goal.returns
returns c = subst (λ b. Looks b c.args.view.now.cell c.in_ok-plug.plug c.args.cpu.now c.lookup.new.cpu) (sym c.if-leased.false) c.in_ok-plug.ensures.looks_up

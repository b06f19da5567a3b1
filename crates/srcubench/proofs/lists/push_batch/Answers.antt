-- Each push adds one, which gets the number.
use Rattle.std.proofs.Common.{◌≡◌, arith, subst}
use Rattle.segs.specs.MarkedList.{At}
use Rattle.srcubench.specs.Lists.{AreMarked}
use Rattle.srcubench.proofs.Passing.{none_marked, one_assigned}
use Rattle.srcubench.proofs.lists.push_batch.Goals as goal

pub loop-entry-init : goal.loop-entry-init
loop-entry-init c = none_marked (At c.args.number) _ c.requires

pub loop-entry-preserved : goal.loop-entry-preserved
loop-entry-preserved c = one_assigned _ _ _ _ _ _ c.in_ok-push.ensures c.assign.ensures.entries c.loop-entry.invariant

pub returns : goal.returns
returns c =
    let test = c.loop-entry-test.false in
    let end = c.loop-entry.auto.entry-end in
    let all : c.loop-entry.entry ≡ 8 = omega (arith, test, end) in
    subst (λ n. AreMarked (At c.args.number) n c.loop-entry.list.entries) all c.loop-entry.invariant

-- Each push adds one.
use Rattle.std.proofs.Common.{◌≡◌, arith, subst}
use Rattle.segs.specs.MarkedList.{Next}
use Rattle.srcubench.specs.Lists.{AreMarked}
use Rattle.srcubench.proofs.Passing.{none_marked, one_pushed}
use Rattle.srcubench.proofs.lists.push_all.Goals as goal

pub loop-entry-init : goal.loop-entry-init
loop-entry-init c = none_marked Next _ c.requires

pub loop-entry-preserved : goal.loop-entry-preserved
loop-entry-preserved c = one_pushed _ _ _ _ c.in_ok-push.ensures c.loop-entry.invariant

pub returns : goal.returns
returns c =
    let test = c.loop-entry-test.false in
    let end = c.loop-entry.auto.entry-end in
    let all : c.loop-entry.entry ≡ c.args.entries = omega (arith, test, end) in
    subst (λ n. AreMarked Next n c.loop-entry.list.entries) all c.loop-entry.invariant

use Rattle.std.proofs.Common.{◌∙◌}
use Rattle.account.proofs.Walks.{none_met, one_more_met, all_met}
use Rattle.account.proofs.span.spans.Goals as goal

pub loop-row-init : goal.loop-row-init
loop-row-init c = none_met _ _ c.with_hasher-ends.result c.new-all.ensures.items c.with_hasher-ends.ensures.empty

pub loop-row-preserved : goal.loop-row-preserved
loop-row-preserved c = one_more_met _ _ _ _ _ _ _ _ c.loop-row.invariant c.in-Some.ensures.cases.0 c.in_ok-add.ensures c.in_ok-note.ensures

pub returns : goal.returns
returns c = c.reverse.ensures.items ∙ all_met _ _ _ _ c.loop-row.invariant c.in_default.ensures.cases

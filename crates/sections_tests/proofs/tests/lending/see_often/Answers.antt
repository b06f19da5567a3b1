use Rattle.sections_tests.proofs.Seeing.{can_begun, can_told}
use Rattle.sections_tests.proofs.tests.lending.see_often.Goals as goal

pub see-value-requires-clause-can : goal.see-value-requires-clause-can
see-value-requires-clause-can c = can_begun c.in-Ok.ensures c.loop.invariant

pub loop-preserved : goal.loop-preserved
loop-preserved c = can_told c.read_unlock.ensures.ends c.see-value.ensures.can

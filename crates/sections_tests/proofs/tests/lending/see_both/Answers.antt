use Rattle.sections_tests.proofs.Seeing.{can_begun}
use Rattle.sections_tests.proofs.tests.lending.see_both.Goals as goal

pub see_elsewhere-before-requires-clause-can : goal.see_elsewhere-before-requires-clause-can
see_elsewhere-before-requires-clause-can c = (can_begun c.in-Ok.ensures c.requires.can.1, c.requires.can.0)

pub see_elsewhere-after-requires-clause-can : goal.see_elsewhere-after-requires-clause-can
see_elsewhere-after-requires-clause-can c = (can_begun c.in-Ok-down_read.ensures c.see_elsewhere-before.ensures.can.0, c.see_elsewhere-before.ensures.can.1)

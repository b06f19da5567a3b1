-- The processor stays one of the domain's.
use Rattle.domain.specs.Views.{IsOf}
use Rattle.refused_tests.proofs.tests.watching.snapshot_after.Given as goal

abbrev pub invariant-loop-nth : goal.invariant-loop-nth
invariant-loop-nth l = IsOf l.domain l.cpu

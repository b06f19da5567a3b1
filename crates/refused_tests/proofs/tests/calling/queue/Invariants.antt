-- The processor stays one of the domain's.
use Rattle.domain.specs.Views.{IsOf}
use Rattle.refused_tests.proofs.tests.calling.queue.Given as goal

abbrev pub invariant-loop-nth : goal.invariant-loop-nth
invariant-loop-nth g l = IsOf l.domain l.cpu

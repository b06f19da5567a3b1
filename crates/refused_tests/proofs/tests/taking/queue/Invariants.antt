-- The processor stays one of the domain's.
use Rattle.domain.specs.Views.{IsOf}
use Rattle.refused_tests.proofs.tests.taking.queue.Given as goal

abbrev pub invariant-loop-job : goal.invariant-loop-job
invariant-loop-job g l = IsOf l.domain l.cpu

abbrev pub invariant-loop : goal.invariant-loop
invariant-loop g l = IsOf l.domain l.cpu

-- The processor is of the domain.
use Rattle.domain.specs.Views.{IsOf}
use Rattle.domain_threads_tests.proofs.tests.jobs.take_of_four.Given as goal

abbrev pub invariant-loop-processor : goal.invariant-loop-processor
invariant-loop-processor g l = IsOf l.domain l.cpu

-- The processor is of the domain.
use Rattle.domain.specs.Views.{IsOf}
use Rattle.domain_threads_tests.proofs.tests.jobs.queue_at_once.Given as goal

abbrev pub invariant-loop-number : goal.invariant-loop-number
invariant-loop-number g l = IsOf l.domain l.cpu

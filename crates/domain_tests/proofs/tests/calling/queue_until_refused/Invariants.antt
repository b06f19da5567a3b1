-- The processor is of the domain.
use Rattle.domain.specs.Views.{IsOf}
use Rattle.domain_tests.proofs.tests.calling.queue_until_refused.Given as goal

abbrev pub invariant-loop-job : goal.invariant-loop-job
invariant-loop-job g l = IsOf l.domain l.cpu

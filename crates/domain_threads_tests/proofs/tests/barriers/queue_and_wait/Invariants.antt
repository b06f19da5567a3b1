-- The processor is of the domain, and has no section open.
use Rattle.domain.specs.Views.{IsOf}
use Rattle.domain.specs.Waiting.{HasNoneOpen}
use Rattle.domain_threads_tests.proofs.tests.barriers.queue_and_wait.Given as goal

abbrev pub invariant-loop : goal.invariant-loop
invariant-loop g l = record {
  here : IsOf l.domain l.cpu;
  none : HasNoneOpen l.cpu;
}

-- The processor is of the domain, and so is the section.
use Rattle.std.proofs.Common.{◌≡◌}
use Rattle.domain.specs.Views.{IsOf}
use Rattle.domain_threads_tests.proofs.tests.jobs.queue_in_section.Given as goal

abbrev pub invariant-loop-number : goal.invariant-loop-number
invariant-loop-number g l = record {
  here : IsOf l.domain l.cpu;
  held : l.held.domain ≡ l.domain.domain;
}

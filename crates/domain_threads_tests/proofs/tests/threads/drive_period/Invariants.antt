-- The processor and the cookie are of the domain.
use Rattle.std.proofs.Common.{◌≡◌}
use Rattle.domain.specs.Views.{IsOf}
use Rattle.domain_threads_tests.proofs.tests.threads.drive_period.Given as goal

abbrev pub invariant-loop : goal.invariant-loop
invariant-loop g l = record {
  here : IsOf l.domain l.cpu;
  cookie : l.cookie.domain ≡ l.domain.domain;
}

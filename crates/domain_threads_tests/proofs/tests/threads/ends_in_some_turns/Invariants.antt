-- The processor and the cookie are of the domain.
use Rattle.std.proofs.Common.{◌≡◌}
use Rattle.domain.specs.Views.{IsOf}
use Rattle.domain_threads_tests.proofs.tests.threads.ends_in_some_turns.Given as goal

abbrev pub invariant-loop : goal.invariant-loop
invariant-loop l = record {
  here : IsOf l.domain l.cpu;
  cookie : l.cookie.domain ≡ l.domain.domain;
}

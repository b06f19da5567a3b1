-- The processor and the cookie are of the domain.
use Rattle.std.proofs.Common.{◌≡◌}
use Rattle.domain.specs.Views.{IsOf}
use Rattle.notify_tests.proofs.tests.sleeping.is_held_up.Given as goal

abbrev pub invariant-loop : goal.invariant-loop
invariant-loop l = record {
  here : IsOf l.domain l.cpu;
  cookie : l.cookie.domain ≡ l.domain.domain;
}

-- They stay the processor of the domain and the seat at the desk.
use Rattle.std.proofs.Common.{◌≡◌}
use Rattle.domain.specs.Views.{IsOf}
use Rattle.plugs_tests.proofs.tests.threads.lease_on.Given as goal

abbrev pub invariant-loop : goal.invariant-loop
invariant-loop l = record {
  cpu : IsOf l.domain l.cpu;
  desk : l.seat.desk ≡ l.desk.desk;
  number : l.seat.number ≡ l.initial.seat.number;
  domain : l.seat.domain ≡ l.domain.domain;
}

-- It stays the same seat.
use Rattle.std.proofs.Common.{◌≡◌}
use Rattle.domain_threads_tests.proofs.tests.threads.wait_at_desk.Given as goal

abbrev pub invariant-loop : goal.invariant-loop
invariant-loop g l = record {
  desk : l.seat.desk ≡ l.desk.desk;
  domain : l.seat.domain ≡ l.initial.seat.domain;
  number : l.seat.number ≡ l.initial.seat.number;
}

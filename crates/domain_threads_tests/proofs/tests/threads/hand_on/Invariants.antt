-- They stay the same seat and processor.
use Rattle.std.proofs.Common.{◌≡◌}
use Rattle.domain_threads_tests.proofs.tests.threads.hand_on.Given as goal

abbrev pub invariant-loop : goal.invariant-loop
invariant-loop l = record {
  desk : l.seat.desk ≡ l.desk.desk;
  number : l.seat.number ≡ l.initial.seat.number;
  domain : l.cpu.cpu.domain ≡ l.seat.domain;
}

-- It stays the same seat.
use Rattle.std.proofs.Common.{◌≡◌}
use Rattle.desk_tests.proofs.tests.wait.Given as goal

abbrev pub invariant-loop : goal.invariant-loop
invariant-loop l = record {
  desk : l.seat.desk ≡ l.desk.desk;
  domain : l.seat.domain ≡ l.initial.seat.domain;
  number : l.seat.number ≡ l.initial.seat.number;
}

-- It stays the same seat, and doesn't hold between two rounds.
use Rattle.std.proofs.Common.{◌≡◌, false}
use Rattle.desk.specs.BayCalls.{holds}
use Rattle.desk_tests.proofs.tests.bay.wait.Given as goal

abbrev pub invariant-loop : goal.invariant-loop
invariant-loop l = record {
  bay : l.seat.bay ≡ l.bay.bay;
  domain : l.seat.domain ≡ l.initial.seat.domain;
  free : holds l.seat ≡ false;
}

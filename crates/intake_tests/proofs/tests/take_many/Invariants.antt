-- As many were taken out as the count says.
use Rattle.std.specs.Prelude.{◌≡◌, ◌≤◌, length, Some}
use Rattle.intake_tests.proofs.tests.take_many.Given as goal

abbrev pub invariant-loop : goal.invariant-loop
invariant-loop g l = record {
  key : l.outlet.key ≡ Some 7;
  taken : length l.outlet.taken ≡ l.taken;
  few : l.taken ≤ 2000;
}

-- As many were pushed as the count says.
use Rattle.std.specs.Prelude.{◌≡◌, length, Some}
use Rattle.intake_tests.proofs.tests.fill.Given as goal

abbrev pub invariant-loop-pushed : goal.invariant-loop-pushed
invariant-loop-pushed g l = record {
  key : l.inlet.key ≡ Some 7;
  pushed : length l.inlet.pushed ≡ l.pushed;
}

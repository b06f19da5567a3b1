-- As many were taken out as the count says.
use Rattle.std.specs.Prelude.{◌≡◌, length, Some}
use Rattle.intake_tests.proofs.tests.take_lazily.Given as goal

abbrev pub invariant-loop-taken : goal.invariant-loop-taken
invariant-loop-taken g l = record {
  key : l.outlet.key ≡ Some 7;
  taken : length l.outlet.taken ≡ l.taken;
}

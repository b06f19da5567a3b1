-- No more were taken out than there were turns.
use Rattle.std.specs.Prelude.{◌≤◌}
use Rattle.intake_tests.proofs.tests.empty.Given as goal

abbrev pub invariant-loop : goal.invariant-loop
invariant-loop g l = record {
  few : l.taken ≤ l.counter;
}

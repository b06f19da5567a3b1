-- The processor stays one of the domain's.
use Rattle.domain.specs.Views.{IsOf}
use Rattle.shelf_tests.proofs.tests.drive.Given as goal

abbrev pub invariant-loop : goal.invariant-loop
invariant-loop l = IsOf l.domain l.cpu

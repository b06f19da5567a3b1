-- The processor stays one of the domain.
use Rattle.domain.specs.Views.{IsOf}
use Rattle.driver_tests.proofs.tests.clocks.drive_again.Given as goal

abbrev pub invariant-loop : goal.invariant-loop
invariant-loop l = IsOf l.domain l.cpu

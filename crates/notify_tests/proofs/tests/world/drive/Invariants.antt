-- The processor stays one of the domain's.
use Rattle.domain.specs.Views.{IsOf}
use Rattle.notify_tests.proofs.tests.world.drive.Given as goal

abbrev pub invariant-loop : goal.invariant-loop
invariant-loop l = IsOf l.domain l.cpu

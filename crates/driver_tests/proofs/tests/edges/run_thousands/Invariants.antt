-- The processor stays idle.
use Rattle.driver.specs.Pools.{IsIdle}
use Rattle.driver_tests.proofs.tests.edges.run_thousands.Given as goal

abbrev pub invariant-loop-thousand : goal.invariant-loop-thousand
invariant-loop-thousand g l = IsIdle l.domain l.cpu

-- The processor stays idle, and the same.
use Rattle.std.proofs.Common.{◌≡◌}
use Rattle.driver.specs.Pools.{IsIdle}
use Rattle.refused_tests.proofs.tests.serving.queue.Given as goal

abbrev pub invariant-loop-job : goal.invariant-loop-job
invariant-loop-job g l = record {
  idle : IsIdle l.domain l.cpu;
  same : l.cpu.cpu.processor ≡ l.initial.cpu.cpu.processor;
}

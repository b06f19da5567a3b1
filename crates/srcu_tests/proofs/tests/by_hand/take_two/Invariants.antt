-- The batch stays one of the worker's domain.
use Rattle.std.proofs.Common.{◌≡◌, ◌<◌, length}
use Rattle.srcu_tests.proofs.tests.by_hand.take_two.Given as goal

abbrev pub invariant-loop-job : goal.invariant-loop-job
invariant-loop-job g l = record {
  tallies : l.batch.tallies ≡ l.worker.domain.tallies;
  there : l.batch.processor < l.worker.domain.processors;
}

abbrev pub decreases-loop-job : goal.decreases-loop-job
decreases-loop-job g l = length l.batch.entries

-- The batch stays one of this domain's, and the processor is used at the end alone.
use Rattle.std.proofs.Common.{◌≡◌, ◌<◌, length}
use Rattle.refused_tests.proofs.tests.taking.take.Given as goal

abbrev pub invariant-loop-job : goal.invariant-loop-job
invariant-loop-job g l = record {
  tallies : l.batch.tallies ≡ l.domain.tallies;
  there : l.batch.processor < l.domain.processors;
}

abbrev pub decreases-loop-job : goal.decreases-loop-job
decreases-loop-job g l = length l.batch.entries

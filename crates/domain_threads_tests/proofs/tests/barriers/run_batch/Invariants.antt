-- The batch stays one of this domain's, and the processor is used at the end alone.
use Rattle.std.proofs.Common.{◌≡◌, ◌<◌, length}
use Rattle.domain_threads_tests.proofs.tests.barriers.run_batch.Given as goal

abbrev pub invariant-loop : goal.invariant-loop
invariant-loop g l = record {
  tallies : l.batch.tallies ≡ l.domain.tallies;
  there : l.batch.processor < l.domain.processors;
}

abbrev pub decreases-loop : goal.decreases-loop
decreases-loop g l = length l.batch.entries

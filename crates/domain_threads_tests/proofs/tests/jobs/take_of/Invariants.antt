-- The batch stays one of this domain's, and the processor is used at the end alone.
use Rattle.std.proofs.Common.{◌≡◌, ◌<◌, length}
use Rattle.domain_threads_tests.proofs.tests.jobs.take_of.Given as goal

abbrev pub invariant-loop-next : goal.invariant-loop-next
invariant-loop-next g l = record {
  tallies : l.batch.tallies ≡ l.domain.tallies;
  there : l.batch.processor < l.domain.processors;
}

abbrev pub decreases-loop-next : goal.decreases-loop-next
decreases-loop-next g l = length l.batch.entries

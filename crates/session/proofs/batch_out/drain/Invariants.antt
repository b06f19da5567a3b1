-- The names that were taken, and then those of the jobs that are left, are the names of all.
use Rattle.std.proofs.Common.{◌≡◌, ◌++◌, length}
use Rattle.solo.specs.Batches.{jobs_of}
use Rattle.session.proofs.batch_out.drain.Given as goal

abbrev pub invariant-loop-name : goal.invariant-loop-name
invariant-loop-name g l = record {
  batch : l.batch ≡ record l.initial.batch { entries = l.batch.entries };
  all : l.names ++ jobs_of l.batch.entries ≡ jobs_of l.initial.batch.entries;
}

abbrev pub decreases-loop-name : goal.decreases-loop-name
decreases-loop-name g l = length l.batch.entries

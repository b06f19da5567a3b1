-- The batch stays one of this domain's, and running what is left of it leads to what running all of it does.
use Rattle.std.proofs.Common.{◌≡◌, length}
use Rattle.std.specs.List.{FoldsTo}
use Rattle.driver.specs.Serving.{jobs_of}
use Rattle.driver.proofs.serving.run_batch.Given as goal

abbrev pub invariant-loop-job : goal.invariant-loop-job
invariant-loop-job g l =
    goal.F-IsAlwaysCallable g l.work
    × record {
      same : l.batch ≡ record l.initial.batch { entries = l.batch.entries };
      left : (last : _) → FoldsTo (λ p x q. goal.F-step g p x tt q) l.work (jobs_of l.batch.entries) last → FoldsTo (λ p x q. goal.F-step g p x tt q) l.initial.work (jobs_of l.initial.batch.entries) last;
    }

abbrev pub decreases-loop-job : goal.decreases-loop-job
decreases-loop-job g l = length l.batch.entries

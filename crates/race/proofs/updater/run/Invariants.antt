-- The batch is the same, with the jobs that are left.
use Rattle.std.proofs.Common.{◌≡◌, length}
use Rattle.race.proofs.updater.run.Given as goal

abbrev pub invariant-loop : goal.invariant-loop
invariant-loop g l = l.batch ≡ record l.fn.batch { entries = l.batch.entries }

abbrev pub decreases-loop : goal.decreases-loop
decreases-loop g l = length l.batch.entries

-- The calls that are still to come.
use Rattle.std.proofs.Common.{length}
use Rattle.registry.specs.Using.{FoldsIn}
use Rattle.registry.proofs.index.Index.try_fold.Given as goal

abbrev pub invariant-loop-entry : goal.invariant-loop-entry
invariant-loop-entry g l =
    goal.F-IsAlwaysCallable g l.step
    × ((last : _) → FoldsIn g.F.FnMut l.step l.so_far l.rest last → FoldsIn g.F.FnMut l.fn.step l.fn.first l.fn.self last)

abbrev pub decreases-loop-entry : goal.decreases-loop-entry
decreases-loop-entry g l = length l.rest

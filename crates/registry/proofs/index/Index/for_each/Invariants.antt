-- The calls that are still to come.
use Rattle.std.proofs.Common.{length}
use Rattle.registry.specs.Using.{VisitsIn}
use Rattle.registry.proofs.index.Index.for_each.Given as goal

abbrev pub invariant-loop-entry : goal.invariant-loop-entry
invariant-loop-entry g l =
    goal.F-IsAlwaysCallable g l.visit
    × ((last : _) → VisitsIn g.F.FnMut l.visit l.rest last → VisitsIn g.F.FnMut l.fn.visit l.fn.self last)

abbrev pub decreases-loop-entry : goal.decreases-loop-entry
decreases-loop-entry g l = length l.rest

-- There is a sample of each run so far.
use Rattle.srcubench.specs.Done.{IsDone}
use Rattle.srcubench.specs.Samples.{AreOfRuns}
use Rattle.srcubench.proofs.work.samples.Given as goal

abbrev pub invariant-loop : goal.invariant-loop
invariant-loop g l = AreOfRuns (IsDone l.initial.work) l.counter l.samples.items

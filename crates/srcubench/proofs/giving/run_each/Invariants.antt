-- So far a batch of each processor was run that had its turn.
use Rattle.std.proofs.Common.{◌*◌, ◌≤◌}
use Rattle.domain.specs.Views.{IsOf}
use Rattle.srcubench.specs.Giving.{RunsEach}
use Rattle.srcubench.proofs.giving.run_each.Given as goal

abbrev pub invariant-loop-processor : goal.invariant-loop-processor
invariant-loop-processor g l = record {
  here : IsOf l.domain l.cpu;
  runs : RunsEach l.domain l.processor l.came l.initial.cpu l.cpu;
  few : l.came ≤ 8 * l.processor;
}

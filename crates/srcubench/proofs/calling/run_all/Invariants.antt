-- So far so many came out.
use Rattle.std.proofs.Common.{◌-◌}
use Rattle.domain.specs.Views.{IsOf}
use Rattle.srcubench.specs.Calling.{RunsAll}
use Rattle.srcubench.proofs.calling.run_all.Given as goal

abbrev pub invariant-loop-came : goal.invariant-loop-came
invariant-loop-came g l = record {
  here : IsOf l.domain l.cpu;
  runs : RunsAll l.domain l.came l.initial.cpu l.cpu;
}

abbrev pub decreases-loop-came : goal.decreases-loop-came
decreases-loop-came g l = l.jobs - l.came

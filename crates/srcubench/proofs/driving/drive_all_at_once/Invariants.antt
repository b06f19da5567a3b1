-- So far as many periods were driven as there were rounds.
use Rattle.domain.specs.Views.{IsOf}
use Rattle.srcubench.specs.Driving.{DrivesAllAtOnce}
use Rattle.srcubench.proofs.driving.drive_all_at_once.Given as goal

abbrev pub invariant-loop : goal.invariant-loop
invariant-loop g l = record {
  drives : DrivesAllAtOnce l.counter l.initial.cpu l.cpu;
  here : IsOf l.domain l.cpu;
}

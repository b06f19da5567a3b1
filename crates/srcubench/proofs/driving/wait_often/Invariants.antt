-- So far as many calls came back as there were rounds.
use Rattle.domain.specs.Views.{IsOf}
use Rattle.domain.specs.Waiting.{HasNoneOpen}
use Rattle.srcubench.specs.Driving.{WaitsAll}
use Rattle.srcubench.proofs.driving.wait_often.Given as goal

abbrev pub invariant-loop : goal.invariant-loop
invariant-loop g l = record {
  waits : WaitsAll l.counter l.initial.cpu l.cpu;
  here : IsOf l.domain l.cpu;
  none : HasNoneOpen l.cpu;
}

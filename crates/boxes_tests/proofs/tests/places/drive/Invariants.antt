-- The processor is the same, and of the domain.
use Rattle.sections.specs.Calls.{IsSameCpu}
use Rattle.domain.specs.Views.{IsOf}
use Rattle.boxes_tests.proofs.tests.places.drive.Given as goal

abbrev pub invariant-loop : goal.invariant-loop
invariant-loop l = record {
  here : IsOf l.domain l.cpu;
  same : IsSameCpu l.initial.cpu.cpu l.cpu.cpu;
}

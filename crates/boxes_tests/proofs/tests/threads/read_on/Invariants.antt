-- The boxes are those of a cell of the processor's domain.
use Rattle.boxes.specs.Boxes.{IsCellOf}
use Rattle.boxes_tests.proofs.tests.threads.read_on.Given as goal

abbrev pub invariant-loop : goal.invariant-loop
invariant-loop g l = IsCellOf l.cpu.cpu l.boxes

-- The processor and the cell are of the domain.
use Rattle.domain.specs.Views.{IsOf}
use Rattle.boxes.specs.Boxes.{IsCellIn, cell_of}
use Rattle.boxes_tests.proofs.tests.lasting.take_all.Given as goal

abbrev pub invariant-loop : goal.invariant-loop
invariant-loop l = record {
  here : IsOf l.domain l.cpu;
  cell : IsCellIn l.domain (cell_of l.writer);
}

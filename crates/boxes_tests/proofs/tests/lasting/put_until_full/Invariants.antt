-- The processor and the cell are of the domain.
use Rattle.domain.specs.Views.{IsOf}
use Rattle.boxes.specs.Boxes.{IsCellIn, cell_of}
use Rattle.boxes_tests.proofs.tests.lasting.put_until_full.Given as goal

abbrev pub invariant-loop-number : goal.invariant-loop-number
invariant-loop-number l = record {
  here : IsOf l.domain l.cpu;
  cell : IsCellIn l.domain (cell_of l.writer);
}

-- The processors and the cell are of the domain.
use Rattle.domain.specs.Views.{IsOf}
use Rattle.boxes.specs.Boxes.{IsCellIn, cell_of}
use Rattle.boxes_tests.proofs.tests.edges.found_of_each.Given as goal

abbrev pub invariant-loop-number : goal.invariant-loop-number
invariant-loop-number l = record {
  first : IsOf l.domain l.edges.first × IsOf l.domain l.edges.second;
  last : IsOf l.domain l.edges.middle × IsOf l.domain l.edges.last;
  writer : IsCellIn l.domain (cell_of l.writer);
  boxes : IsCellIn l.domain l.boxes;
}

-- The others are of the domain, and so is the cell.
use Rattle.std.proofs.Common.{All, length, ◌≡◌}
use Rattle.domain.specs.Views.{IsOf}
use Rattle.boxes.specs.Boxes.{IsCellIn}
use Rattle.boxes_tests.proofs.tests.alone.numbers_on.Given as goal

abbrev pub invariant-loop-processor : goal.invariant-loop-processor
invariant-loop-processor l = record {
  here : All (IsOf l.domain) l.cpus.items;
  cell : IsCellIn l.domain l.boxes;
}

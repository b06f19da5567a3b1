-- The cell is one of the processor's domain.
use Rattle.shelf.specs.Cells.{IsCellIn}
use Rattle.shelf_tests.proofs.tests.read_on.Given as goal

abbrev pub invariant-loop : goal.invariant-loop
invariant-loop g l = IsCellIn l.cpu.cpu.domain l.values

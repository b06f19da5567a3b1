-- The cell is one of the processor's domain.
use Rattle.refused_tests.proofs.Cells.{cell_here}
use Rattle.refused_tests.proofs.tests.boxing.number_in.Goals as goal

pub read-requires-clause-cell : goal.read-requires-clause-cell
read-requires-clause-cell c = cell_here c.args.domain.now c.args.cpu.now c.args.boxes.now c.requires.domain c.requires.boxes

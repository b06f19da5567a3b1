-- The cell is one of the processor's domain.
use Rattle.std.proofs.Common.{◌<◌}
use Rattle.sections.specs.Words.{cells_in}
use Rattle.domain_tests.proofs.tests.versions.read_on.Given as goal

abbrev pub invariant-loop : goal.invariant-loop
invariant-loop g l = 0 < cells_in l.cpu.cpu.domain

-- The processor is the same, and the cell is one of its domain.
use Rattle.std.proofs.Common.{◌<◌}
use Rattle.srcu.specs.Words.{IsCellIn, IsSameCpu}
use Rattle.tour.proofs.readers.wait_for_another.Given as goal

abbrev pub invariant-loop : goal.invariant-loop
invariant-loop g l = record {
  cell : IsCellIn l.cpu.cpu.domain l.configs;
  same : IsSameCpu l.initial.cpu.cpu l.cpu.cpu;
}

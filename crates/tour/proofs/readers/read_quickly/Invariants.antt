-- The cell is one of the worker's domain.
use Rattle.srcu.specs.Words.{IsCellOf}
use Rattle.tour.proofs.readers.read_quickly.Given as goal

abbrev pub invariant-loop : goal.invariant-loop
invariant-loop l = IsCellOf l.worker.domain l.configs

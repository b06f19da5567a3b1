-- The worker stays at its domain, and the writer at its cell.
use Rattle.std.proofs.Common.{◌≡◌}
use Rattle.srcu.specs.Words.{IsBoxWriterOf}
use Rattle.limiter.proofs.control.settle.Given as goal

abbrev pub invariant-loop : goal.invariant-loop
invariant-loop g l = (l.worker.domain ≡ l.fn.worker.domain) × IsBoxWriterOf l.fn.worker.domain l.writer

-- The worker stays at its domain, and the reader at its cell.
use Rattle.std.proofs.Common.{◌≡◌}
use Rattle.srcu.specs.Words.{AreBoxesOf}
use Rattle.valuebench.proofs.live.show.Given as goal

abbrev pub invariant-loop-2 : goal.invariant-loop-2
invariant-loop-2 g l = (l.worker.domain ≡ l.fn.worker.domain) × AreBoxesOf l.fn.worker.domain l.reader

abbrev pub invariant-loop : goal.invariant-loop
invariant-loop g l = (l.worker.domain ≡ l.fn.worker.domain) × AreBoxesOf l.fn.worker.domain l.reader

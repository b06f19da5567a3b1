-- The worker stays at its domain, and the reader at its cell.
use Rattle.std.proofs.Common.{◌≡◌}
use Rattle.filter.proofs.filter.Given as goal

abbrev pub invariant-loop-packet : goal.invariant-loop-packet
invariant-loop-packet l = (l.worker.domain ≡ l.fn.worker.domain) × (l.reads ≡ l.fn.reads)

-- The worker stays at its domain, and the reader at its cell.
use Rattle.std.proofs.Common.{◌≡◌}
use Rattle.limiter.proofs.limiting.answer_all.Given as goal

abbrev pub invariant-loop-request : goal.invariant-loop-request
invariant-loop-request l = (l.worker.domain ≡ l.fn.worker.domain) × (l.reader ≡ l.fn.reader)

-- The worker stays at its domain.
use Rattle.std.proofs.Common.{◌≡◌}
use Rattle.limiter.proofs.control.control.Given as goal

abbrev pub invariant-loop-old : goal.invariant-loop-old
invariant-loop-old g l = l.worker.domain ≡ l.fn.worker.domain

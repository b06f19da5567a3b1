-- The worker stays at its domain.
use Rattle.std.proofs.Common.{◌≡◌}
use Rattle.valuebench.proofs.live.update.Given as goal

abbrev pub invariant-loop-time : goal.invariant-loop-time
invariant-loop-time g l = l.worker.domain ≡ l.fn.worker.domain

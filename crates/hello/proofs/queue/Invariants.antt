-- The worker stays at its domain.
use Rattle.std.proofs.Common.{◌≡◌}
use Rattle.hello.proofs.queue.Given as goal

abbrev pub invariant-loop-job : goal.invariant-loop-job
invariant-loop-job g l = l.worker.domain ≡ l.fn.worker.domain

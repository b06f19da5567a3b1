-- The worker stays at work.
use Rattle.soak.specs.Workers.{IsAtWork}
use Rattle.soak.proofs.worker.work.Given as goal

abbrev pub invariant-loop-round : goal.invariant-loop-round
invariant-loop-round g l = IsAtWork l.domain l.worker

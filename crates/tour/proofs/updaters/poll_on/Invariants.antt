-- The worker's domain stays, and the cookie is known in it.
use Rattle.std.proofs.Common.{◌≡◌}
use Rattle.srcu.specs.Words.{IsKnownIn}
use Rattle.tour.proofs.updaters.poll_on.Given as goal

abbrev pub invariant-loop : goal.invariant-loop
invariant-loop g l = record {
  same : l.worker.domain ≡ l.fn.worker.domain;
  cookie : IsKnownIn l.worker.domain.domain l.cookie;
}

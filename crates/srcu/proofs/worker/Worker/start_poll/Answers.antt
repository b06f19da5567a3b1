-- A cookie opens no reading.
use Rattle.driver.proofs.CallerLemmas.{kept_asking}
use Rattle.srcu.proofs.Keeping.{idle_still}
use Rattle.srcu.proofs.worker.Worker.start_poll.Goals as goal

pub invariant_of-self : goal.invariant_of-self
invariant_of-self g c = idle_still _ _ _ c.self.invariant (kept_asking _ _ _ _ c.start_poll.ensures.acts)

-- Loads open no reading.
use Rattle.driver.proofs.CallerLemmas.{kept_loading}
use Rattle.srcu.proofs.Keeping.{idle_still}
use Rattle.srcu.proofs.worker.Worker.holders.Goals as goal

pub invariant_of-self : goal.invariant_of-self
invariant_of-self g c = idle_still _ _ _ c.self.invariant (kept_loading _ _ c.holders.ensures.acts)

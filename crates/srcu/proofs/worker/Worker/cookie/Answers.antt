-- A cookie opens no reading.
use Rattle.std.proofs.Common.{refl}
use Rattle.driver.proofs.CallerLemmas.{kept_plain}
use Rattle.srcu.proofs.Keeping.{idle_still}
use Rattle.srcu.proofs.worker.Worker.cookie.Goals as goal

pub invariant_of-self : goal.invariant_of-self
invariant_of-self g c = idle_still _ _ _ c.self.invariant (kept_plain _ _ c.cookie.ensures.acts _ refl refl (λ s. refl))

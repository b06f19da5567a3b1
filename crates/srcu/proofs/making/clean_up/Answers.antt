-- Idle processors are of the domain.
use Rattle.driver.proofs.CallerLemmas.{idle_ones_are_here}
use Rattle.srcu.proofs.making.clean_up.Goals as goal

pub cleanup-requires : goal.cleanup-requires
cleanup-requires g c = idle_ones_are_here _ _ c.requires

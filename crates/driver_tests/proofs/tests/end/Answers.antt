-- They are of the domain.
use Rattle.driver.proofs.CallerLemmas.{idle_ones_are_here}
use Rattle.driver_tests.proofs.tests.end.Goals as goal

pub cleanup-requires : goal.cleanup-requires
cleanup-requires c = idle_ones_are_here _ _ c.requires

-- The processors of a new domain are idle.
use Rattle.driver.proofs.CallerLemmas.{new_ones_are_idle}
use Rattle.driver_tests.proofs.tests.made.Goals as goal

pub returns-clause-idle : goal.returns-clause-idle
returns-clause-idle c = new_ones_are_idle _ _ c.in_ok-domain.ensures.made

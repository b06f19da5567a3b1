-- The processors of a new domain are idle.
use Rattle.driver.proofs.CallerLemmas.{new_ones_are_idle}
use Rattle.refused_tests.proofs.tests.serving.made.Goals as goal

pub returns : goal.returns
returns c = new_ones_are_idle _ _ c.in_ok-domain.ensures.made

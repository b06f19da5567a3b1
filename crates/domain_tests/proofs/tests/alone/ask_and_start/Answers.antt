-- Each of the two calls leaves the processor as it is, but for what it has seen.
use Rattle.domain.proofs.Sameness.{same_trans, same_asked, same_started_in}
use Rattle.domain_tests.proofs.tests.alone.ask_and_start.Goals as goal

pub returns-clause-same : goal.returns-clause-same
returns-clause-same c = same_trans _ _ _ (same_asked _ _ _ c.start_poll.ensures.starts) (same_started_in _ _ _ c.start.ensures.starts)

-- The polls leave each processor in its domain.
use Rattle.steps.proofs.sets.wait_for_both.Goals as goal

pub run_period-requires : goal.run_period-requires
run_period-requires c = c.take_after_both-early.ensures.stays.0 _ c.start_poll.ensures.here

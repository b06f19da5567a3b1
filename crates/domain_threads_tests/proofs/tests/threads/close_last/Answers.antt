-- A section's end leaves the processor in its domain.
use Rattle.domain_threads_tests.proofs.tests.threads.close_last.Goals as goal

pub ends_in_some_turns-late-requires : goal.ends_in_some_turns-late-requires
ends_in_some_turns-late-requires c = c.up_read.ensures.stays _ c.ends_in_some_turns-early.ensures

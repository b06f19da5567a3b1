-- A poll and an end leave the processor in its domain.
use Rattle.domain_threads_tests.proofs.tests.threads.close_from_desk.Goals as goal

pub advance-ended-requires : goal.advance-ended-requires
advance-ended-requires g c = c.up_read.ensures.stays _ (c.poll-early.ensures.stays _ c.advance-waiting.ensures.here)

-- A poll leaves the processor in its domain.
use Rattle.domain_tests.proofs.tests.calling.hold_up.Goals as goal

pub advance-ended-requires : goal.advance-ended-requires
advance-ended-requires g c = c.poll-early.ensures.stays _ c.drive-period.ensures

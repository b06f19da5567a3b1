use Rattle.domain_tests.proofs.tests.cleanup.hand_in_with_a_section.Goals as goal

pub taken_down-totals-requires : goal.taken_down-totals-requires
taken_down-totals-requires g c = (c.refused-cause.ensures.here.0, c.up_read.ensures.stays _ c.refused-cause.ensures.here.1)

-- Each call leaves the processor in its domain.
use Rattle.steps.proofs.periods.poll_by_number.Goals as goal

pub returns : goal.returns
returns c = λ d here.
    c.poll_number-refused.ensures.stays d
    (c.poll_number-always.ensures.stays d
    (c.poll_number-done.ensures.stays d
    (c.cookie.ensures.stays d here)))

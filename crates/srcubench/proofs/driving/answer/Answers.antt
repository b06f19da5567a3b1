-- The engine's answer is passed on.
use Rattle.srcubench.proofs.driving.answer.Goals as goal

pub returns-in-Ok-clause-here : goal.returns-in-Ok-clause-here
returns-in-Ok-clause-here g c = c.advance.ensures.here

pub returns-in-Ok-clause-advances : goal.returns-in-Ok-clause-advances
returns-in-Ok-clause-advances g c = c.in-Ok.ensures.advances

pub returns-in-Err-clause-here : goal.returns-in-Err-clause-here
returns-in-Err-clause-here g c = c.advance.ensures.here

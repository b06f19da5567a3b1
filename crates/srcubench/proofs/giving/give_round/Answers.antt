-- The engine had its turn, and then each processor.
use Rattle.srcubench.proofs.giving.give_round.Goals as goal

pub returns-clause-gives : goal.returns-clause-gives
returns-clause-gives g c = record { turned = c.turn_once.new.cpu; turns = c.in_default.ensures.turns; runs = c.in_ok-came.ensures.runs }

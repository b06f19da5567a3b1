use Rattle.desk.proofs.Growing.{grows_by_one, grows_by_two}
use Rattle.desk.proofs.BayTurns.{one_swap, one_turn}
use Rattle.desk.proofs.laws.swaps_of_a_bay.Goals as goal

pub returns-clause-one : goal.returns-clause-one
returns-clause-one g c = grows_by_one

pub returns-clause-two : goal.returns-clause-two
returns-clause-two g c = grows_by_two

pub returns-clause-swap : goal.returns-clause-swap
returns-clause-swap g c = one_swap

pub returns-clause-turn : goal.returns-clause-turn
returns-clause-turn g c = one_turn

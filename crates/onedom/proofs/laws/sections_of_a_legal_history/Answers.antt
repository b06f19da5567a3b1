use Rattle.onedom.proofs.Lawful.{open_has_one_begin, only_open_ends, closed_for_good, open_are_listed}
use Rattle.onedom.proofs.laws.sections_of_a_legal_history.Goals as goal

pub returns : goal.returns
returns c = record { opened = open_has_one_begin; ended = only_open_ends; closed = closed_for_good; listed = open_are_listed }

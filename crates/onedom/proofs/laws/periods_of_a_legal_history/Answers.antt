use Rattle.onedom.proofs.Periods.{one_period, empty_may_end}
use Rattle.onedom.proofs.laws.periods_of_a_legal_history.Goals as goal

pub returns : goal.returns
returns c = record { one = one_period; may_end = empty_may_end }

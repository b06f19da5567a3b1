use Rattle.sections.proofs.Sums.{counters_add_up}
use Rattle.sections.proofs.laws.totals_of_a_domain.Goals as goal

pub returns : goal.returns
returns c = counters_add_up

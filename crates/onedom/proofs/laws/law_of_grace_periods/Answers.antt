use Rattle.onedom.proofs.Periods.{law}
use Rattle.onedom.proofs.laws.law_of_grace_periods.Goals as goal

pub returns : goal.returns
returns c = law

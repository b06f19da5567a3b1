use Rattle.calls.proofs.Totalling.{totals_exact}
use Rattle.calls.proofs.laws.totals_of_callbacks.Goals as goal

pub returns : goal.returns
returns g c = totals_exact

use Rattle.desk.proofs.Holders.{one_holds}
use Rattle.desk.proofs.laws.holders_of_a_bay.Goals as goal

pub returns : goal.returns
returns g c = one_holds

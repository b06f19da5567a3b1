use Rattle.desk.proofs.Forging as desk
use Rattle.desk.proofs.BayForging as bay
use Rattle.desk.proofs.laws.makers_of_swaps.Goals as goal

pub returns-clause-desk : goal.returns-clause-desk
returns-clause-desk g c = desk.never_forged g.T.Token.domain

pub returns-clause-bay : goal.returns-clause-bay
returns-clause-bay g c = bay.never_forged g.T.Token.domain g.T.Alike.like

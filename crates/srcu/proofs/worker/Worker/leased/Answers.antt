-- What a lease answers is the plug in its version.
use Rattle.srcu.proofs.Leasing.{has_got}
use Rattle.srcu.proofs.worker.Worker.leased.Goals as goal

pub returns-clause-plug : goal.returns-clause-plug
returns-clause-plug g c = has_got _ _ _ _ _ c.get.ensures.gets

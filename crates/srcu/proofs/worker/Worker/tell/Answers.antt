-- The sign is given, whichever way.
use Rattle.std.proofs.Common.{rules}
use Rattle.srcu.proofs.Telling.{says_given}
use Rattle.srcu.proofs.worker.Worker.tell.Goals as goal

pub returns-clause-tells : goal.returns-clause-tells
returns-clause-tells g c = search rules

pub returns-clause-given : goal.returns-clause-given
returns-clause-given g c = says_given c.args.stop.now _ _ c.match-give.result.0 c.match-give.result.1 (returns-clause-tells g c)

-- A put opens no section.
use Rattle.srcu.proofs.Boxing.{none_put_none}
use Rattle.srcu.proofs.Emptying.{stored_put_none}
use Rattle.srcu.proofs.Putting.{behind_put_none, version_put_none}
use Rattle.srcu.proofs.Since.{since_put_none}
use Rattle.srcu.proofs.worker.Worker.put_none.Goals as goal

pub invariant_of-self : goal.invariant_of-self
invariant_of-self g c = record { here = c.put_none-cookie.ensures.here; closed = none_put_none _ _ _ _ c.put_none-cookie.result c.put_none-cookie.ensures.puts c.self.invariant.closed }

pub returns-clause-stored : goal.returns-clause-stored
returns-clause-stored g c = stored_put_none _ _ _ _ c.put_none-cookie.result c.put_none-cookie.ensures.puts

pub returns-clause-since : goal.returns-clause-since
returns-clause-since g c = rw (← c.self.view_is) (since_put_none _ _ _ _ c.put_none-cookie.result c.put_none-cookie.ensures.puts)

pub returns-clause-version : goal.returns-clause-version
returns-clause-version g c = version_put_none _ _ _ _ c.put_none-cookie.result c.put_none-cookie.ensures.puts

pub returns-clause-only : goal.returns-clause-only
returns-clause-only g c = rw (← c.self.view_is) (behind_put_none _ _ _ _ c.put_none-cookie.result c.put_none-cookie.ensures.puts)

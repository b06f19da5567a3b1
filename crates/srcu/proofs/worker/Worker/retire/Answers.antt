-- A put opens no section.
use Rattle.srcu.proofs.Boxing.{none_retired}
use Rattle.srcu.proofs.worker.Worker.retire.Goals as goal
use Rattle.srcu.proofs.worker.Worker.retire.Goals.{in-Ok, in-Err}

pub invariant_of-self : goal.invariant_of-self
invariant_of-self g c = record { here = c.retire.ensures.here; closed = none_retired _ _ _ _ c.retire.result c.retire.ensures.puts c.self.invariant.closed }

pub returns-clause-puts : goal.returns-clause-puts
returns-clause-puts g c = elim c.match-retire.branch [
  | in-Ok w ↦ rw w.result-is (rw (← c.self.view_is) w.in-Ok.ensures.puts)
  | in-Err w ↦ rw w.result-is (rw (← c.self.view_is) w.in-Err.ensures.puts)
]

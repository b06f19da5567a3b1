-- Finding a version opens no section.
use Rattle.domain.proofs.CallerLemmas.{none_still, same_found}
use Rattle.srcu.proofs.worker.Worker.find_held.Goals as goal

pub invariant_of-self : goal.invariant_of-self
invariant_of-self g c = record { here = c.find_held.ensures.stays _ c.self.invariant.here; closed = none_still c.self.inside.cpu c.find_held.new.cpu (same_found _ _ _ c.self.inside.cpu.cpu c.find_held.new.cpu.cpu c.find_held.ensures.finds) c.self.invariant.closed }

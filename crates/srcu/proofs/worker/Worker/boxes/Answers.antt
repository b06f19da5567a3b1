-- Making a cell one of boxes opens no section.
use Rattle.srcu.proofs.Boxing.{none_equipped}
use Rattle.srcu.proofs.worker.Worker.boxes.Goals as goal

pub invariant_of-self : goal.invariant_of-self
invariant_of-self g c = record { here = c.make.ensures.here; closed = none_equipped _ (λ m. m.0.writer) _ _ c.make.result c.make.ensures.puts c.self.invariant.closed }

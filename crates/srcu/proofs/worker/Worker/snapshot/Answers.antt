-- A note and loads open no reading.
use Rattle.srcu.proofs.Keeping.{idle_snapped}
use Rattle.srcu.proofs.worker.Worker.snapshot.Goals as goal

pub invariant_of-self : goal.invariant_of-self
invariant_of-self g c = idle_snapped _ _ _ c.snapshot.result c.self.invariant c.snapshot.ensures.acts c.snapshot.ensures.snaps

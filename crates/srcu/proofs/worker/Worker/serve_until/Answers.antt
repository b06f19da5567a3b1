-- The driver worked on the processor of this worker.
use Rattle.srcu.proofs.worker.Worker.serve_until.Goals as goal

pub returns-clause-works : goal.returns-clause-works
returns-clause-works g c = rw (← c.self.view_is) c.serve_until.ensures.works

pub returns-clause-vain : goal.returns-clause-vain
returns-clause-vain g c = rw (← c.self.view_is) c.serve_until.ensures.vain

-- The work is run on the processor of this worker, which is idle.
use Rattle.srcu.proofs.worker.reading.Worker+J.read.Goals as goal

pub read-requires-clause-may : goal.read-requires-clause-may
read-requires-clause-may g c = (rw (← c.self.view_is) at c.requires.may) c.self.invariant

pub read-requires-clause-keeps : goal.read-requires-clause-keeps
read-requires-clause-keeps g c = (rw (← c.self.view_is) at c.requires.keeps) c.self.invariant

pub returns-clause-reads : goal.returns-clause-reads
returns-clause-reads g c = rw (← c.self.view_is) c.read.ensures.reads

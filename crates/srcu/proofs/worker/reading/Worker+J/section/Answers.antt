-- The work is run on the processor of this worker, which is idle.
use Rattle.srcu.proofs.worker.reading.Worker+J.section.Goals as goal

pub work_in-requires-clause-may : goal.work_in-requires-clause-may
work_in-requires-clause-may g c = (rw (← c.self.view_is) at c.requires.may) c.self.invariant

pub work_in-requires-clause-leaves : goal.work_in-requires-clause-leaves
work_in-requires-clause-leaves g c = (rw (← c.self.view_is) at c.requires.leaves) c.self.invariant

pub returns-clause-works : goal.returns-clause-works
returns-clause-works g c = rw (← c.self.view_is) c.work_in.ensures.works

pub returns-clause-kept : goal.returns-clause-kept
returns-clause-kept g c = rw (← c.self.view_is) c.work_in.ensures.kept

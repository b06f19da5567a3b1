use Rattle.std.proofs.Common.{refl}
use Rattle.domain.proofs.Acting.{barrier_acts}
use Rattle.domain.proofs.domain.Domain.barrier_start.Goals as goal

pub returns-clause-acts : goal.returns-clause-acts
returns-clause-acts g c = rw (← c.cpu.view_is) (barrier_acts _ _ refl c.barrier_start.result c.barrier_start.ensures.starts)

use Rattle.std.proofs.Common.{refl}
use Rattle.domain.proofs.Acting.{barrier_polls}
use Rattle.domain.proofs.domain.Domain.barrier_poll.Goals as goal

pub returns-clause-acts : goal.returns-clause-acts
returns-clause-acts g c = rw (← c.cpu.view_is) (barrier_polls _ _ refl c.barrier_poll.ensures.polls)

use Rattle.std.proofs.Common.{refl}
use Rattle.domain.proofs.Acting.{hear_acts}
use Rattle.domain.proofs.domain.Domain.hear.Goals as goal

pub returns-clause-acts : goal.returns-clause-acts
returns-clause-acts g c = rw (← c.cpu.view_is) (hear_acts _ _ refl c.hear.ensures.hears)

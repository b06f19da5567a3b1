use Rattle.std.proofs.Common.{refl}
use Rattle.domain.proofs.Acting.{need_acts}
use Rattle.domain.proofs.domain.Domain.need.Goals as goal

pub returns-clause-acts : goal.returns-clause-acts
returns-clause-acts g c = rw (← c.cpu.view_is) (need_acts _ _ c.root_need.ensures refl)

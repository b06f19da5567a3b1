use Rattle.std.proofs.Common.{refl}
use Rattle.domain.proofs.Acting.{note_acts}
use Rattle.domain.proofs.cpu.Cpu.number.Goals as goal

pub returns-clause-acts : goal.returns-clause-acts
returns-clause-acts g c = rw (← c.self.view_is) (note_acts _ _ refl c.number.ensures.adds)

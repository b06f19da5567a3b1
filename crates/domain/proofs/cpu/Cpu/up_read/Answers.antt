use Rattle.std.proofs.Common.{refl}
use Rattle.domain.proofs.Acting.{end_acts}
use Rattle.domain.proofs.cpu.Cpu.up_read.Goals as goal

pub returns-clause-acts : goal.returns-clause-acts
returns-clause-acts g c = rw (← c.self.view_is) (end_acts _ _ refl c.up_read.ensures.ends)

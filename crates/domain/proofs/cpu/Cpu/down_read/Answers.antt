use Rattle.std.proofs.Common.{refl, true}
use Rattle.domain.proofs.Acting.{lock_acts}
use Rattle.domain.proofs.cpu.Cpu.down_read.Goals as goal

pub returns-clause-acts : goal.returns-clause-acts
returns-clause-acts g c = rw (← c.self.view_is) (lock_acts _ _ refl true c.down_read.result c.down_read.ensures)

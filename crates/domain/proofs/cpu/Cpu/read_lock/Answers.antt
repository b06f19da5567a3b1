use Rattle.std.proofs.Common.{refl, false}
use Rattle.domain.proofs.Acting.{lock_acts}
use Rattle.domain.proofs.cpu.Cpu.read_lock.Goals as goal

pub returns-clause-acts : goal.returns-clause-acts
returns-clause-acts g c = rw (← c.self.view_is) (lock_acts _ _ refl false c.read_lock.result c.read_lock.ensures)

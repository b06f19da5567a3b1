use Rattle.std.proofs.Common.{refl}
use Rattle.domain.proofs.Acting.{enter_acts}
use Rattle.domain.proofs.cpu.Cpu.enter.Goals as goal

pub returns-clause-enters : goal.returns-clause-enters
returns-clause-enters g c = rw (← c.self.view_is) c.enter.ensures

pub returns-clause-acts : goal.returns-clause-acts
returns-clause-acts g c = rw (← c.self.view_is) (enter_acts _ _ refl c.args.look c.enter.result c.enter.ensures)

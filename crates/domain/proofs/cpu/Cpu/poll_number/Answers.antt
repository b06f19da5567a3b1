use Rattle.std.proofs.Common.{refl}
use Rattle.domain.proofs.Acting.{poll_acts}
use Rattle.domain.proofs.cpu.Cpu.poll_number.Goals as goal

pub returns-clause-acts : goal.returns-clause-acts
returns-clause-acts g c = rw (← c.self.view_is) (poll_acts _ _ refl c.args.cookie c.poll_number.result c.poll_number.ensures)

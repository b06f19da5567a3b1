use Rattle.std.proofs.Common.{refl}
use Rattle.domain.proofs.Acting.{cookie_acts}
use Rattle.domain.proofs.cpu.Cpu.cookie.Goals as goal

pub returns-clause-acts : goal.returns-clause-acts
returns-clause-acts g c = rw (← c.self.view_is) (cookie_acts _ _ refl c.cookie.result c.cookie.ensures)

use Rattle.std.proofs.Common.{refl}
use Rattle.domain.proofs.Acting.{ask_acts}
use Rattle.domain.proofs.cpu.Cpu.poll.Goals as goal

pub returns-clause-acts : goal.returns-clause-acts
returns-clause-acts g c = rw (← c.self.view_is) (ask_acts _ _ refl c.poll.ensures.asks.adds)

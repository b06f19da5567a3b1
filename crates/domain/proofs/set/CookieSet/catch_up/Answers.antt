use Rattle.std.proofs.Common.{refl}
use Rattle.domain.proofs.Acting.{catch_acts}
use Rattle.domain.proofs.set.CookieSet.catch_up.Goals as goal

pub returns-clause-acts : goal.returns-clause-acts
returns-clause-acts g c = rw (← c.cpu.view_is) (catch_acts _ _ refl c.catch_up.ensures.catches)

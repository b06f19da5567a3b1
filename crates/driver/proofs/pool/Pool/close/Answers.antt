-- All that come out of the stock are idle processors of its domain, as many as there are.
use Rattle.driver.proofs.pool.Pool.close.Goals as goal

pub returns-in-Ok : goal.returns-in-Ok
returns-in-Ok g c = rw (← c.self.view_is) c.in-Ok.ensures

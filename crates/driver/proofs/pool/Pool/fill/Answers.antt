-- All that come out of the stock are idle processors of its domain, as many as there were.
use Rattle.driver.proofs.pool.Pool.fill.Goals as goal

pub returns-clause-fills : goal.returns-clause-fills
returns-clause-fills g c = rw (← c.self.view_is) c.in_ok-before.ensures.fills.0

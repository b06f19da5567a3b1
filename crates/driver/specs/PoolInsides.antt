-- How the fields of a pool and of what goes with a processor that is out are seen.
use Rattle.driver.specs.declared.pool.Pool.TheInside as pool
use Rattle.driver.specs.declared.pool.lending.Slip.TheInside as slip
use Rattle.driver.specs.Pools.{PoolView, SlipView}

abbrev pub view_of_pool : {J A : Type 0} → pool.Inside J A → PoolView
view_of_pool p = record { pool = p.stock.lock; domain = p.stock.key; count = p.stock.count }

abbrev pub view_of_slip : {J A : Type 0} → slip.Inside J A → SlipView
view_of_slip s = record { pool = s.out.lock; processor = s.processor }

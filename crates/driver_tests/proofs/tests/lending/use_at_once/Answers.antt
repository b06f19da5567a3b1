-- The processors of both pools are of the domain.
use Rattle.std.proofs.lemmas.List.Elements.{All-take, All-drop, All-same}
use Rattle.driver.specs.Pools.{IsIdle}
use Rattle.driver_tests.proofs.tests.lending.use_at_once.Goals as goal

pub pool_of-requires : goal.pool_of-requires
pool_of-requires g c = All-same (IsIdle c.in_ok-domain.domain) _ _ c.in-Ok.ensures.items (All-take (IsIdle c.in_ok-domain.domain) c.min-at.result c.in_ok-domain.cpus.items c.in_ok-domain.ensures.idle)

pub pool_of-requires-2 : goal.pool_of-requires-2
pool_of-requires-2 g c = All-same (IsIdle c.in_ok-domain.domain) _ _ c.in-Ok.ensures.tail (All-drop (IsIdle c.in_ok-domain.domain) c.min-at.result c.in_ok-domain.cpus.items c.in_ok-domain.ensures.idle)

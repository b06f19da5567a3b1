-- The pool was of this domain, and so are those that it gave.
use Rattle.std.proofs.Common.{All, subst}
use Rattle.domain.specs.Views.{DomainView}
use Rattle.driver.specs.Pools.{IsIdle}
use Rattle.driver_tests.proofs.tests.lending.come_and_end.Goals as goal

pub end-requires : goal.end-requires
end-requires g c = subst (λ (d : DomainView). All (IsIdle d) c.in-Ok.cpus.items) c.in_ok-pool.ensures c.in-Ok.ensures.0

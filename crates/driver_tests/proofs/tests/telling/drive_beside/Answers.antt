-- The processor that comes back is the one that was taken.
use Rattle.std.proofs.Common.{sym, ◌∙◌, subst}
use Rattle.domain.specs.Views.{DomainView}
use Rattle.driver.specs.Pools.{IsIdle}
use Rattle.driver_tests.proofs.tests.telling.drive_beside.Goals as goal

pub queue-queued-requires : goal.queue-queued-requires
queue-queued-requires g c = subst (λ (d : DomainView). IsIdle d c.take-lent.result.cpu) c.requires.pool c.take-lent.ensures.lent.idle

pub serve-served-requires-clause-here : goal.serve-served-requires-clause-here
serve-served-requires-clause-here g c = c.queue-queued.ensures.idle.here

pub serve-served-requires-clause-none : goal.serve-served-requires-clause-none
serve-served-requires-clause-none g c = c.queue-queued.ensures.idle.closed

pub give-requires : goal.give-requires
give-requires g c = record {
  pool = c.take-lent.ensures.pool;
  lent = record {
    idle = subst (λ (d : DomainView). IsIdle d c.serve-served.new.cpu) (sym c.requires.pool) (record { here = c.serve-served.ensures.here; closed = c.serve-served.ensures.none });
    number = c.take-lent.ensures.lent.number ∙ sym (c.serve-served.ensures.same.cpu.3 ∙ c.queue-queued.ensures.same);
  };
}

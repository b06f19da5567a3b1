-- The processor that comes back is the one that was taken.
use Rattle.std.proofs.Common.{sym, ◌∙◌, subst}
use Rattle.domain.specs.Views.{DomainView}
use Rattle.driver.specs.Pools.{IsIdle}
use Rattle.refused_tests.proofs.tests.serving.drive_in.Goals as goal

pub drive-came-requires-clause-cpu : goal.drive-came-requires-clause-cpu
drive-came-requires-clause-cpu g c = subst (λ (d : DomainView). IsIdle d c.take-lent.result.cpu) c.requires.pool c.take-lent.ensures.lent.idle

pub give-requires : goal.give-requires
give-requires g c = record {
  pool = c.take-lent.ensures.pool;
  lent = record {
    idle = subst (λ (d : DomainView). IsIdle d c.drive-came.new.cpu) (sym c.requires.pool) c.drive-came.ensures.idle;
    number = c.take-lent.ensures.lent.number ∙ sym c.drive-came.ensures.same;
  };
}

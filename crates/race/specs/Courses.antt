-- What the workers of a race share.
use Rattle.std.specs.Prelude.{◌≡◌, ◌≤◌}
use Rattle.shelf.specs.Cells.{IsCellIn}
use Rattle.race.specs.declared.course.Course.{Course}

-- what lies on the desk are leases of this domain, the table is in one of its cells, and there are no more than a thousand rounds
pub record IsCourse (g : Course) : Type 0 where
  pub home : g.desk.domain ≡ g.domain.domain
  pub cell : IsCellIn g.domain.domain g.view
  pub few : g.rounds ≤ 1000

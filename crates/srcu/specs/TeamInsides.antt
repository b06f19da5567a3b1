-- How the fields of a team are seen.
use Rattle.std.specs.Prelude.{All, length}
use Rattle.srcu.specs.declared.team.Team.TheInside as team
use Rattle.driver.specs.Pools.{IsIdle}
use Rattle.srcu.specs.Teams.{TeamView}
use Rattle.srcu.specs.Workers.{AreWritersOf}

abbrev pub view_of_team : {J A : Type 0} → team.Inside J A → TeamView
view_of_team t = record { domain = t.domain.now; cpus = length t.cpus.items; writers = length t.writers.items }

abbrev pub IsTeam : {J A : Type 0} → team.Inside J A → Type 0
IsTeam t = All (IsIdle t.domain.now) t.cpus.items × AreWritersOf t.domain.now t.writers.items

-- What a run begins with.
use Rattle.std.specs.Prelude.{◌≡◌, ◌+◌, ◌<◌, All, vec_len, vec_capacity}
use Rattle.sections.specs.Words.{cells_in}
use Rattle.sections.specs.Dealing.{AreNewWriters}
use Rattle.domain.specs.Views.{DomainView, IsOf}
use Rattle.domain.specs.Parts.{Each}
use Rattle.driver.specs.Pools.{IsIdle}
use Rattle.soak.specs.declared.driving.Cpus.{Cpus}
use Rattle.soak.specs.declared.run.Room.{Room}
use Rattle.soak.specs.declared.run.Ground.{Ground}
use Rattle.soak.specs.declared.run.Parts.{Parts}
use Rattle.soak.specs.declared.run.Start.{Start}
use Rattle.soak.specs.Workers.{IsAtWork}
use Rattle.soak.specs.Updaters.{IsUpdating}

-- both of the driver's processors are of the domain, with no reading open
abbrev pub AreIdle : DomainView → Cpus → Type 0
AreIdle d cpus = IsIdle d cpus.serving × IsIdle d cpus.watching

-- there is room for the processors of seven workers, and for three more
abbrev pub HasRoom : Parts → Type 0
HasRoom p = (vec_len p.cpus ≡ 0) × (vec_capacity p.cpus ≡ 10)

-- and for seven workers
pub record IsRoom (r : Room) : Type 0 where
  pub workers : (vec_len r.workers ≡ 0) × (vec_capacity r.workers ≡ 7)
  pub parts : HasRoom r.parts

-- seven processors, those of the driver and one more are of the domain, which has three cells with new writers, and the sign is for its drivers
pub record IsGround (g : Ground) : Type 0 where
  pub cpus : (vec_len g.cpus ≡ 7) × Each (IsOf g.domain) g.cpus.items
  pub driver : AreIdle g.domain g.driver
  pub updating : IsOf g.domain g.updating
  pub cells : cells_in g.domain.domain ≡ 3
  pub writers : AreNewWriters g.domain.domain 3 8 g.writers.items
  pub stop : g.stop.domain ≡ g.domain

-- seven workers, the driver and the updater are at one domain, the sign is for its drivers, and there is room for the workers' processors in the end
pub record IsPrepared (s : Start) : Type 0 where
  pub many : vec_len s.workers ≡ 7
  pub all : All (IsAtWork s.domain) s.workers.items
  pub driver : AreIdle s.domain s.driver
  pub updater : IsUpdating s.domain s.updater
  pub stop : s.stop.domain ≡ s.domain
  pub cpus : (vec_len s.parts.cpus ≡ 0) × (vec_len s.workers + 2 < vec_capacity s.parts.cpus)

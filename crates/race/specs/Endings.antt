-- What is done when all workers are back.
use Rattle.std.specs.Prelude.{◌≡◌, ℕ, ◌+◌, List, [], ◌∷◌, ◌++◌, map, Option, MatchOption}
use Rattle.sections.specs.Words.{opened_in, closed_in}
use Rattle.desk.specs.Views.{DeskView, SeatView}
use Rattle.desk.specs.Calls.{Closes}
use Rattle.domain.specs.declared.domain.cleanup.InUse.{InUse}
use Rattle.domain.specs.declared.domain.cleanup.Totals.{Totals}
use Rattle.domain.specs.Views.{DomainView, CpuView, Stays}
use Rattle.domain.specs.Cleanup.{IsTakenDown, IsRefused}
use Rattle.plugs.specs.Views.{LeaseView}
use Rattle.race.specs.declared.course.Course.{Course}
use Rattle.race.specs.declared.workers.Workers.{Workers}
use Rattle.race.specs.Readers.{one_if}

-- the desk was closed, and of what lay there so many leases came out: one or none
pub record ClosesDesk (d : DeskView) (seats : List (SeatView LeaseView)) (found : ℕ) : Type 0 where
  pub left : Option LeaseView
  pub closes : Closes d seats left
  pub one : found ≡ one_if left

-- the processor ended so many sections, and did nothing else
pub record EndsSections (ended : ℕ) (c c' : CpuView Unit) : Type 0 where
  pub stays : Stays c c'
  pub processor : c'.cpu.processor ≡ c.cpu.processor
  pub opened : opened_in c'.cpu.mine ≡ opened_in c.cpu.mine
  pub closed : closed_in c'.cpu.mine ≡ closed_in c.cpu.mine + ended
  pub calls : c'.calls ≡ c.calls

-- with these processors the domain can't be taken down: it is in use, for this cause
abbrev pub StaysInUse : DomainView → List (CpuView Unit) → Type 0
StaysInUse d cpus = (cause : InUse) × (d' : DomainView) × (cpus' : List (CpuView Unit)) × IsRefused d cpus cause d' cpus'

-- The processors of all workers were handed in, the updater's once the desk was closed. The domain was taken down with these totals; where none are told, it was in use
pub record CleansUp (g : Course) (w : Workers) (told : Option Totals) : Type 0 where
  pub ended : ℕ
  pub last : CpuView Unit
  pub ends : EndsSections ended w.updater.cpu last
  pub cpus : List (CpuView Unit)
  pub all : cpus ≡ map (λ r. r.cpu) w.readers.items ++ last ∷ []
  pub answer : MatchOption told (StaysInUse g.domain cpus) (IsTakenDown g.domain cpus)

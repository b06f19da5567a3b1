-- Grace periods that one processor drives through a domain, or waits for, one behind the other.
use Rattle.std.specs.Prelude.{◌≡◌, ℕ, zero, suc, ◌<◌}
use Rattle.sseq.specs.declared.index.Index.{Index}
use Rattle.scan.specs.declared.progress.Progress.{Progress}
use Rattle.scan.specs.declared.progress.Progress.TheVariants.{Flipped, Ended}
use Rattle.sections.specs.Views.{CookieView}
use Rattle.funnel.specs.declared.view.Shape.{Shape}
use Rattle.domain.specs.Views.{DomainView, CpuView}
use Rattle.domain.specs.Turns.{StartsIn, AdvancesIn, CarriesOnIn}
use Rattle.domain.specs.Waiting.{StartsPoll, Synchronizes}
use Rattle.domain.specs.Making.{new_cpu}

module _ {J : Type 0} where
  -- the engine had a turn, and gave some answer
  pub record TurnsOnce (c c' : CpuView J) : Type 0 where
    pub answer : Progress
    pub turns : AdvancesIn c answer c'

  -- in three turns of the engine a period started, flipped and ended
  pub record DrivesPeriod (c c' : CpuView J) : Type 0 where
    pub started : CpuView J
    pub flipped : CpuView J
    pub at_start : ℕ
    pub index : Index
    pub at_end : ℕ
    pub starts : StartsIn c at_start started
    pub flips : AdvancesIn started (Flipped index) flipped
    pub ends : AdvancesIn flipped (Ended at_end) c'

  abbrev pub DrivesPeriods : ℕ → CpuView J → CpuView J → Type 0
  DrivesPeriods zero c c' = c' ≡ c
  DrivesPeriods (suc n) c c' = (between : CpuView J) × DrivesPeriods n c between × DrivesPeriod between c'

  -- a period was asked for, and in one turn the engine went on to the end of one
  pub record DrivesAtOnce (c c' : CpuView J) : Type 0 where
    pub asked : CpuView J
    pub cookie : CookieView
    pub at_end : ℕ
    pub asks : StartsPoll c cookie asked
    pub ends : CarriesOnIn asked (Ended at_end) c'

  abbrev pub DrivesAllAtOnce : ℕ → CpuView J → CpuView J → Type 0
  DrivesAllAtOnce zero c c' = c' ≡ c
  DrivesAllAtOnce (suc n) c c' = (between : CpuView J) × DrivesAllAtOnce n c between × DrivesAtOnce between c'

  -- so many calls of `synchronize` came back
  abbrev pub WaitsAll : ℕ → CpuView J → CpuView J → Type 0
  WaitsAll zero c c' = c' ≡ c
  WaitsAll (suc n) c c' = (between : CpuView J) × WaitsAll n c between × Synchronizes between c'

  -- a processor of a new domain of so many
  pub record IsNewOf (processors periods : ℕ) (c : CpuView J) : Type 0 where
    pub domain : DomainView
    pub shape : Shape
    pub number : ℕ
    pub there : number < processors
    pub new : c ≡ new_cpu domain (record { processors = processors; sections = 1; periods = periods; cells = 0 }) shape number

pub record HaveDriven (processors periods : ℕ) : Type 0 where
  pub first : CpuView (Unit {0})
  pub last : CpuView (Unit {0})
  pub new : IsNewOf processors periods first
  pub drives : DrivesPeriods periods first last

pub record HaveDrivenAtOnce (processors periods : ℕ) : Type 0 where
  pub first : CpuView (Unit {0})
  pub last : CpuView (Unit {0})
  pub new : IsNewOf processors periods first
  pub drives : DrivesAllAtOnce periods first last

pub record HaveWaited (processors times : ℕ) : Type 0 where
  pub first : CpuView (Unit {0})
  pub last : CpuView (Unit {0})
  pub new : IsNewOf processors times first
  pub waits : WaitsAll times first last

-- A table with fifteen rows: how it is filled, and how a key is installed and looked up.
use Rattle.std.specs.Prelude.{◌≡◌, ℕ, zero, suc, Bool, true, false, Option, Some, List, []}
use Rattle.sections.specs.Calls.{Unlocks}
use Rattle.sections.specs.WriterViews.{WriterView}
use Rattle.domain.specs.Views.{DomainView, CpuView}
use Rattle.plugs.specs.Tables.{IsFull}
use Rattle.plugs.specs.Views.{TableState, LeaseView}
use Rattle.plugs.specs.Changes.{Installs}
use Rattle.plugs.specs.Reading.{LooksUp, Leases, Gets}
use Rattle.srcubench.specs.Driving.{DrivesPeriod}
use Rattle.srcubench.specs.Founding.{IsNew, EachBecomes}

module _ {J : Type 0} where
  -- Changes

  -- the key was installed as its own plug, and then a period was driven
  pub record InstallsOne (key : ℕ) (t : TableState) (c : CpuView J) (t' : TableState) (c' : CpuView J) : Type 0 where
    pub version : ℕ
    pub installed : CpuView J
    pub installs : Installs key key version t c t' installed
    pub drives : DrivesPeriod installed c'

  -- so many were in this way, each the key of its place
  abbrev pub InstallsAll : (ℕ → ℕ) → ℕ → TableState → CpuView J → TableState → CpuView J → Type 0
  InstallsAll key_at zero t c t' c' = (t' ≡ t) × (c' ≡ c)
  InstallsAll key_at (suc n) t c t' c' = (table : TableState) × (cpu : CpuView J) × InstallsAll key_at n t c table cpu × InstallsOne (key_at n) table cpu t' c'

  -- the keys from 0 to 14 were installed, which are all fifteen rows: key 15 has no room
  pub record FillsUp (t : TableState) (c : CpuView J) (t' : TableState) (c' : CpuView J) : Type 0 where
    pub installs : InstallsAll (λ n. n) 15 t c t' c'
    pub full : IsFull 15 t'.rows

  -- the table was filled in this way, and then key 7 was installed so many times
  pub record FillsAndInstalls (times : ℕ) (t : TableState) (c : CpuView J) (t' : TableState) (c' : CpuView J) : Type 0 where
    pub table : TableState
    pub cpu : CpuView J
    pub fills : FillsUp t c table cpu
    pub installs : InstallsAll (λ n. 7) times table cpu t' c'

  -- Looks

  -- a lease was taken, the plug of key 7 was read through it, and it was released
  pub record LeasesOnce (cell : ℕ) (plug : Option ℕ) (c c' : CpuView J) : Type 0 where
    pub lease : LeaseView
    pub leased : CpuView J
    pub read : CpuView J
    pub leases : Leases cell lease c leased
    pub gets : Gets lease 7 plug leased read
    pub ends : Unlocks lease.held read.cpu c'.cpu

  -- the plug of key 7 was read through a lease, or looked up
  abbrev pub Looks : Bool → ℕ → Option ℕ → CpuView J → CpuView J → Type 0
  Looks true cell plug c c' = LeasesOnce cell plug c c'
  Looks false cell plug c c' = LooksUp cell 7 plug c c'

  -- so many times, one behind the other, and each time it was 7
  abbrev pub LooksOften : Bool → ℕ → ℕ → CpuView J → CpuView J → Type 0
  LooksOften leased cell zero c c' = c' ≡ c
  LooksOften leased cell (suc n) c c' = (between : CpuView J) × LooksOften leased cell n c between × Looks leased cell (Some 7) between c'

-- a table with no rows, to be put by this writer
abbrev pub no_rows : WriterView → TableState
no_rows w = record { writer = w; rows = [] }

-- fifteen rows were put in a new domain with so many readers
pub record HasTable (readers : ℕ) (d : DomainView) (cpus : List (CpuView (Unit {0}))) (table : TableState) (changer : CpuView (Unit {0})) : Type 0 where
  pub first : CpuView (Unit {0})
  pub writer : WriterView
  pub new : IsNew readers d cpus first writer
  pub fills : FillsUp (no_rows writer) first table changer

-- and then key 7 was installed so many times
pub record HaveInstalled (times : ℕ) : Type 0 where
  pub domain : DomainView
  pub readers : List (CpuView (Unit {0}))
  pub table : TableState
  pub changer : CpuView (Unit {0})
  pub has : HasTable 0 domain readers table changer
  pub last_table : TableState
  pub last : CpuView (Unit {0})
  pub installs : InstallsAll (λ n. 7) times table changer last_table last

-- and then each reader looked key 7 up so many times, or read it through as many leases
pub record HaveLooked (threads : ℕ) (leased : Bool) (times : ℕ) : Type 0 where
  pub domain : DomainView
  pub readers : List (CpuView (Unit {0}))
  pub table : TableState
  pub changer : CpuView (Unit {0})
  pub has : HasTable threads domain readers table changer
  pub each : EachBecomes (LooksOften leased 0 times) readers

-- What is read of a table of plug-ins, and how it is changed.
use Rattle.std.specs.Prelude.{ℕ, Option}
use Rattle.srcu.specs.Words.{CpuView, LeaseView, TableState, Gets, Installs, LooksUp, Unlocks}

module _ {J : Type 0} where
  -- the plug of the key in the lease's version was read, and then the lease's section ended
  pub record GetsAndReleases (key : ℕ) (lease : LeaseView) (plug : Option ℕ) (c c' : CpuView J) : Type 0 where
    pub read : CpuView J
    pub gets : Gets lease key plug c read
    pub ends : Unlocks lease.held read.cpu c'.cpu

  -- the key has the plug from this version of the table on, and was then looked up
  pub record InstallsAndLooks (cell key plug version : ℕ) (found : Option ℕ) (t : TableState) (c : CpuView J) (t' : TableState) (c' : CpuView J) : Type 0 where
    pub installed : CpuView J
    pub installs : Installs key plug version t c t' installed
    pub looks : LooksUp cell key found installed c'

-- What is read of a table in one section.
use Rattle.std.specs.Prelude.{◌≡◌, ℕ, ◌≤◌, Option, List}
use Rattle.onedom.specs.Histories.{version_of}
use Rattle.sections.specs.Views.{ReadingView, FoundView}
use Rattle.sections.specs.Calls.{ReadLocks, DownReads, Unlocks}
use Rattle.sections.specs.Reads.{Finds}
use Rattle.domain.specs.Views.{CpuView}
use Rattle.domain.specs.Acting as doing
use Rattle.domain.specs.Acting.{ActsAs}
use Rattle.domain.specs.Reading.{LoadsAll}
use Rattle.plugs.specs.declared.rows.Row.{Row}
use Rattle.plugs.specs.Tables.{plug_of, AreRead}
use Rattle.plugs.specs.Views.{LeaseView}

module _ {J : Type 0} where
  -- the words of the version that was found were loaded, and are read as these rows
  pub record LoadsRows (r : ReadingView) (f : FoundView) (rows : List Row) (c c' : CpuView J) : Type 0 where
    pub words : List ℕ
    pub loads : LoadsAll r f words c c'
    pub read : AreRead words rows

  -- the section found the version that is current in the cell, and these are its rows
  pub record FindsRows (cell : ℕ) (r : ReadingView) (rows : List Row) (c c' : CpuView J) : Type 0 where
    pub found : FoundView
    pub at : CpuView J
    pub finds : Finds cell r c.cpu at.cpu found
    pub acts : ActsAs (doing.finds r.section cell found) c at
    pub loads : LoadsRows r found rows at c'

  -- a section began, found a version of the cell that is no older than any that the processor had seen there, and ended. The plug is that of the key in this version
  pub record LooksUp (cell key : ℕ) (plug : Option ℕ) (c c' : CpuView J) : Type 0 where
    pub reading : ReadingView
    pub begun : CpuView J
    pub locks : ReadLocks c.cpu begun.cpu reading
    pub acts : ActsAs (doing.begins reading.section reading.index) c begun
    pub rows : List Row
    pub at : CpuView J
    pub finds : FindsRows cell reading rows begun at
    pub not_older : version_of cell c.cpu.seen ≤ finds.found.version
    pub ends : Unlocks reading at.cpu c'.cpu
    pub closes : ActsAs (doing.ends reading.section) at c'
    pub plug_is : plug ≡ plug_of rows key

  -- a held section began and found a version of the cell that is no older than any that the processor had seen there
  pub record Leases (cell : ℕ) (lease : LeaseView) (c c' : CpuView J) : Type 0 where
    pub begun : CpuView J
    pub downs : DownReads c.cpu begun.cpu lease.held
    pub acts : ActsAs (doing.begins lease.held.section lease.held.index) c begun
    pub finds : Finds cell lease.held begun.cpu c'.cpu lease.found
    pub looks : ActsAs (doing.finds lease.held.section cell lease.found) begun c'
    pub not_older : version_of cell c.cpu.seen ≤ lease.found.version

  -- the plug is that of the key in the lease's version
  pub record Gets (lease : LeaseView) (key : ℕ) (plug : Option ℕ) (c c' : CpuView J) : Type 0 where
    pub rows : List Row
    pub loads : LoadsRows lease.held lease.found rows c c'
    pub plug_is : plug ≡ plug_of rows key

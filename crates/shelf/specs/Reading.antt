-- What is read of a cell in one section.
use Rattle.std.specs.Prelude.{◌≡◌, ℕ, List}
use Rattle.sections.specs.Views.{ReadingView, FoundView}
use Rattle.sections.specs.Calls.{ReadLocks, Unlocks}
use Rattle.sections.specs.Reads.{IsPinned, Finds}
use Rattle.domain.specs.Views.{CpuView, with_cpu}
use Rattle.domain.specs.Acting as doing
use Rattle.domain.specs.Acting.{ActsAs}
use Rattle.domain.specs.Reading.{LoadsAll}

module _ {J : Type 0} where
  -- the sixteen words of the version were loaded, and the value is what they are read as
  pub record Loads {T : Type 0} (value : List ℕ → T) (r : ReadingView) (f : FoundView) (c c' : CpuView J) (x : T) : Type 0 where
    pub words : List ℕ
    pub loads : LoadsAll r f words c c'
    pub is : x ≡ value words

  -- the section found a version of the cell, no older than any that the processor had seen there, and then its words were loaded
  pub record Reads {T : Type 0} (value : List ℕ → T) (cell : ℕ) (r : ReadingView) (c c' : CpuView J) (x : T) : Type 0 where
    pub found : FoundView
    pub between : CpuView J
    pub finds : Finds cell r c.cpu between.cpu found
    pub pinned : IsPinned r found
    pub only : between ≡ with_cpu between.cpu c
    pub loads : Loads value r found between c' x

  -- a section began, a value was read in it, and it ended
  pub record ReadsOnce {T : Type 0} (value : List ℕ → T) (cell : ℕ) (c : CpuView J) (x : T) (c' : CpuView J) : Type 0 where
    pub reading : ReadingView
    pub begun : CpuView J
    pub locks : ReadLocks c.cpu begun.cpu reading
    pub only : begun ≡ with_cpu begun.cpu c
    pub acts : ActsAs (doing.begins reading.section reading.index) c begun
    pub behind : CpuView J
    pub reads : Reads value cell reading begun behind x
    pub ends : Unlocks reading behind.cpu c'.cpu
    pub rest : c' ≡ with_cpu c'.cpu behind
    pub closes : ActsAs (doing.ends reading.section) behind c'

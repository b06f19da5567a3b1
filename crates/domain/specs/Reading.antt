-- What is read of a version in one section, all of it at once.
use Rattle.std.specs.Prelude.{◌≡◌, ℕ, ◌≤◌, List, ◌++◌}
use Rattle.onedom.specs.Histories.{IsBeginning}
use Rattle.sections.specs.Shelves.{IsStart}
use Rattle.sections.specs.Views.{ReadingView, FoundView}
use Rattle.sections.specs.Calls.{IsSameCpu, IsSeenBy, Unlocks}
use Rattle.sections.specs.Reads.{AreWords, word_loads, Finds, IsPinned}
use Rattle.domain.specs.Views.{CpuView, with_cpu}
use Rattle.domain.specs.Acting as doing
use Rattle.domain.specs.Acting.{ActsAs}

module _ {J : Type 0} where
  -- who has seen this has seen what the section had when it began, and what it had when it found the version
  pub record Covers (r : ReadingView) (f : FoundView) (c : CpuView J) : Type 0 where
    pub section : IsBeginning r.seen c.cpu.seen
    pub found : IsBeginning f.seen c.cpu.seen
    pub changes : f.changes ≤ c.cpu.changes
    pub texts : IsStart f.texts c.cpu.texts
    pub history : IsSeenBy c.cpu

  -- the sixteen words were loaded one after the other in the section that found the version, and nothing else was done; what is then seen goes on from what was seen before
  pub record LoadsAll (r : ReadingView) (f : FoundView) (words : List ℕ) (c c' : CpuView J) : Type 0 where
    pub words_are : AreWords f words
    pub same : IsSameCpu c.cpu c'.cpu
    pub mine : c'.cpu.mine ≡ c.cpu.mine
    pub steps : c'.cpu.steps ≡ c.cpu.steps ++ word_loads f.cell f.version 0 words
    pub since : IsBeginning c.cpu.seen c'.cpu.seen
    pub later : c.cpu.changes ≤ c'.cpu.changes
    pub texts : IsStart c.cpu.texts c'.cpu.texts
    pub covers : Covers r f c'
    pub rest : c' ≡ with_cpu c'.cpu c
    pub acts : ActsAs doing.loads c c'

  -- the section found this version of the cell, its sixteen words were loaded, and then the section ended: each as by a call of its own
  pub record ReadsAndEnds (cell : ℕ) (r : ReadingView) (words : List ℕ) (c c' : CpuView J) : Type 0 where
    pub found : FoundView
    pub at : CpuView J
    pub finds : Finds cell r c.cpu at.cpu found
    pub pinned : IsPinned r found
    pub only : at ≡ with_cpu at.cpu c
    pub looks : ActsAs (doing.finds r.section cell found) c at
    pub read : CpuView J
    pub loads : LoadsAll r found words at read
    pub ends : Unlocks r read.cpu c'.cpu
    pub rest : c' ≡ with_cpu c'.cpu read
    pub closes : ActsAs (doing.ends r.section) read c'

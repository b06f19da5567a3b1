-- A whole section in one call.
use Rattle.std.specs.Prelude.{ℕ, ◌≤◌}
use Rattle.onedom.specs.Histories.{IsBeginning}
use Rattle.sections.specs.Shelves.{IsStart}
use Rattle.sections.specs.Views.{CpuView, ReadingView, FoundView}
use Rattle.sections.specs.Calls.{ReadLocks}
use Rattle.sections.specs.Showing.{FindsAndEnds}

-- a section began. Its look, from which it has its index, had seen all that was seen when this was found
pub record BeginsKnowing (known : FoundView) (c begun : CpuView) (r : ReadingView) : Type 0 where
  pub locks : ReadLocks c begun r
  pub covers : IsBeginning known.seen locks.between.seen
  pub not_before : known.changes ≤ locks.between.changes
  pub texts : IsStart known.texts locks.between.texts

-- a section began so, found this version of the cell, and ended
pub record FindsInSection (cell : ℕ) (known : FoundView) (c c' : CpuView) : Type 0 where
  pub begun : CpuView
  pub section : ReadingView
  pub begins : BeginsKnowing known c begun section
  pub ends : FindsAndEnds cell section begun c'

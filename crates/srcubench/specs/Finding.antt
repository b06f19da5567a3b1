-- Sections that find a version and read words of it.
use Rattle.std.specs.Prelude.{◌≡◌, ℕ, zero, suc, ◌<◌, ◌⊎◌, List, length, slice_index_or}
use Rattle.atomic_table.specs.Seated.{TableId}
use Rattle.sections.specs.Words.{cells_in}
use Rattle.sections.specs.Views.{CpuView, ReadingView, FoundView}
use Rattle.sections.specs.Calls.{ReadLocks, Unlocks, LooksInVain, new_cpu}
use Rattle.sections.specs.Reads as reads
use Rattle.sections.specs.Reads.{Finds, ReadsWord}
use Rattle.srcubench.specs.declared.pairs.Reader.{Reader}
use Rattle.srcubench.specs.Pairs.{HasRoom}

-- the first so many words of the version were loaded, one behind the other
abbrev pub ReadsWords : ℕ → ReadingView → FoundView → CpuView → CpuView → Type 0
ReadsWords zero r f c d = d ≡ c
ReadsWords (suc n) r f c d = (between : CpuView) × (word : ℕ) × ReadsWords n r f c between × ReadsWord r f n word between d

-- so many words of the version were loaded, all sixteen by one call
abbrev pub ReadsSome : ℕ → ReadingView → FoundView → CpuView → CpuView → Type 0
ReadsSome n r f c d = ReadsWords n r f c d ⊎ ((n ≡ 16) × (words : List ℕ) × reads.ReadsWords r f words c d)

-- what is current in the first cell was found in the section, and then so many of its words were loaded
pub record LooksUp (words : ℕ) (r : ReadingView) (c d : CpuView) : Type 0 where
  pub found : FoundView
  pub between : CpuView
  pub finds : Finds 0 r c between found
  pub reads : ReadsSome words r found between d

-- a section was begun, that was done in it, and it was ended
pub record FindsOnce (words : ℕ) (c d : CpuView) : Type 0 where
  pub reading : ReadingView
  pub begun : CpuView
  pub looked : CpuView
  pub begins : ReadLocks c begun reading
  pub looks : LooksUp words reading begun looked
  pub ends : Unlocks reading looked d

-- so many sections were, one behind the other
abbrev pub FindsOften : ℕ → ℕ → CpuView → CpuView → Type 0
FindsOften words zero c d = d ≡ c
FindsOften words (suc n) c d = (between : CpuView) × FindsOften words n c between × FindsOnce words between d

-- as many as were asked for
pub record FindsAll (words times found : ℕ) (c d : CpuView) : Type 0 where
  pub all : found ≡ times
  pub finds : FindsOften words times c d

-- fewer were, since no more sections of an index may be begun here
pub record StopsFinding (words times found : ℕ) (c d : CpuView) : Type 0 where
  pub fewer : found < times
  pub between : CpuView
  pub finds : FindsOften words found c between
  pub vain : LooksInVain between d

-- there is a cell, nothing was done here, and so many sections of an index may begin
abbrev pub CanFind : ℕ → CpuView → Type 0
CanFind times c = HasRoom times c × (0 < cells_in c.domain)

-- the processor did all of them, and counted them
pub record HasFoundAll (words times : ℕ) (c : CpuView) (reader : Reader) : Type 0 where
  pub all : reader.made ≡ times
  pub finds : FindsOften words times c reader.cpu

-- each of these processors did so
pub record HaveFoundAll (words times : ℕ) (cpus : List CpuView) (readers : List Reader) : Type 0 where
  pub count : length readers ≡ length cpus
  pub each : (k : ℕ) (c : CpuView) (r : Reader) → k < length cpus → HasFoundAll words times (slice_index_or cpus k c) (slice_index_or readers k r)

-- so did each processor of a new domain with so many of them
pub record AreFindersOfOne (threads words times : ℕ) (readers : List Reader) : Type 0 where
  pub domain : TableId
  pub count : length readers ≡ threads
  pub each : (k : ℕ) (r : Reader) → k < threads → HasFoundAll words times (new_cpu domain threads times k) (slice_index_or readers k r)

-- What a caller knows of a worker, and what its calls do.
use Rattle.std.specs.Prelude.{◌≡◌, ℕ, List, All}
use Rattle.sections.specs.Views.{ReadingView}
use Rattle.sections.specs.WriterViews.{WriterView}
use Rattle.sections.specs.Calls.{ReadLocks, Unlocks}
use Rattle.domain.specs.Views.{DomainView, CpuView, with_cpu}
use Rattle.shelf.specs.Cells.{CellView, IsCellIn, cell_of}
use Rattle.shelf.specs.Reading.{Reads}
use Rattle.boxes.specs.Boxes.{BoxesView, BoxWriterView}
use Rattle.boxes.specs.Boxes as boxes
use Rattle.boxes.specs.Writing.{IsPlain}

-- `domain` is the worker's domain, and `cpu` its processor
pub record WorkerView (J : Type 0) : Type 0 where
  pub domain : DomainView
  pub cpu : CpuView J

-- a cell of this domain, and of no other one
abbrev pub IsCellOf : DomainView → CellView → Type 0
IsCellOf d place = IsCellIn d.domain place

-- the writer of a cell of this domain, which is no cell of boxes yet
abbrev pub IsWriterOf : DomainView → WriterView → Type 0
IsWriterOf d w = IsCellOf d (cell_of w) × IsPlain w

abbrev pub AreWritersOf : DomainView → List WriterView → Type 0
AreWritersOf d writers = All (IsWriterOf d) writers

-- a cell of boxes of this domain
abbrev pub AreBoxesOf : DomainView → BoxesView → Type 0
AreBoxesOf d b = boxes.IsCellIn d b

-- the writer of one
abbrev pub IsBoxWriterOf : {V A : Type 0} → DomainView → BoxWriterView V A → Type 0
IsBoxWriterOf d w = AreBoxesOf d (boxes.cell_of w)

module _ {J : Type 0} where
  -- the same domain, and the processor of the same number
  abbrev pub IsSameWorker : WorkerView J → WorkerView J → Type 0
  IsSameWorker w w' = (w'.domain ≡ w.domain) × (w'.cpu.cpu.processor ≡ w.cpu.cpu.processor)

  -- a section began, a value was read in it, and it ended
  pub record ReadsOnce {T : Type 0} (value : List ℕ → T) (cell : ℕ) (c : CpuView J) (x : T) (c' : CpuView J) : Type 0 where
    pub reading : ReadingView
    pub begun : CpuView J
    pub locks : ReadLocks c.cpu begun.cpu reading
    pub only : begun ≡ with_cpu begun.cpu c
    pub behind : CpuView J
    pub reads : Reads value cell reading begun behind x
    pub ends : Unlocks reading behind.cpu c'.cpu
    pub rest : c' ≡ with_cpu c'.cpu behind

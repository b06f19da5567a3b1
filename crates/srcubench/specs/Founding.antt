-- A new domain with one cell, for readers and one who changes what lies in the cell.
use Rattle.std.specs.Prelude.{◌≡◌, ℕ, ◌+◌, ◌-◌, ◌^◌, ◌<◌, List, length, slice_index_or}
use Rattle.sections.specs.Limits.{most_sections}
use Rattle.sections.specs.declared.view.Bounds.{Bounds}
use Rattle.sections.specs.WriterViews.{WriterView}
use Rattle.sections.specs.Dealing.{new_writer}
use Rattle.funnel.specs.declared.view.Shape.{Shape}
use Rattle.domain.specs.Views.{DomainView, CpuView}
use Rattle.domain.specs.Making.{new_cpu}

-- a processor for each reader and one for who changes, with as many sections and grace periods as there may be, and one cell
abbrev pub bounds_for : ℕ → Bounds
bounds_for readers = record { processors = readers + 1; sections = most_sections; periods = 2 ^ 59 - 1; cells = 1 }

module _ {J : Type 0} where
  -- none of its processors has made a step. The last one is the changer's, whose writer has put nothing into the cell, which has two slots
  pub record IsNew (readers : ℕ) (d : DomainView) (cpus : List (CpuView J)) (changer : CpuView J) (writer : WriterView) : Type 0 where
    pub shape : Shape
    pub count : length cpus ≡ readers
    pub each : (k : ℕ) (c : CpuView J) → k < readers → slice_index_or cpus k c ≡ new_cpu d (bounds_for readers) shape k
    pub last : changer ≡ new_cpu d (bounds_for readers) shape readers
    pub pen : writer ≡ new_writer d.domain 0 2

  -- each of the processors became another one in this way
  abbrev pub EachBecomes : (CpuView J → CpuView J → Type 0) → List (CpuView J) → Type 0
  EachBecomes Becomes cpus = (k : ℕ) (c : CpuView J) → k < length cpus → (last : CpuView J) × Becomes (slice_index_or cpus k c) last

-- Values that are put one behind the other, each behind a grace period of the one before.
use Rattle.std.specs.Prelude.{◌≡◌, ℕ, zero, suc, replicate}
use Rattle.sections.specs.WriterViews.{WriterView}
use Rattle.sections.specs.Dealing.{new_writer}
use Rattle.funnel.specs.declared.view.Shape.{Shape}
use Rattle.domain.specs.Views.{DomainView, CpuView}
use Rattle.domain.specs.Making.{new_cpu}
use Rattle.shelf.specs.Replacing.{Replaces}
use Rattle.srcubench.specs.Driving.{DrivesPeriod}

module _ {J : Type 0} where
  -- sixteen words, each this number, were put into a slot that was blank, and then a period was driven
  pub record PutsOnce (number : ℕ) (w : WriterView) (c : CpuView J) (w' : WriterView) (c' : CpuView J) : Type 0 where
    pub put : CpuView J
    pub cookie : ℕ
    pub replaces : Replaces (replicate 16 number) cookie w c w' put
    pub drives : DrivesPeriod put c'

  -- so many were, each the number of its place
  abbrev pub PutsOften : ℕ → WriterView → CpuView J → WriterView → CpuView J → Type 0
  PutsOften zero w c w' c' = (w' ≡ w) × (c' ≡ c)
  PutsOften (suc n) w c w' c' = (writer : WriterView) × (cpu : CpuView J) × PutsOften n w c writer cpu × PutsOnce n writer cpu w' c'

-- by the processor of a new domain of one, into the cell there, which has two slots
pub record HavePut (times : ℕ) : Type 0 where
  pub domain : DomainView
  pub shape : Shape
  pub last_writer : WriterView
  pub last : CpuView (Unit {0})
  pub puts : PutsOften times (new_writer domain.domain 0 2) (new_cpu domain (record { processors = 1; sections = 1; periods = times; cells = 1 }) shape 0) last_writer last

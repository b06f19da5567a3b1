-- What the writer of a cell does with a processor of a domain.
use Rattle.std.specs.Prelude.{◌≡◌, ℕ}
use Rattle.sections.specs.WriterViews.{WriterView}
use Rattle.sections.specs.Writers.{PutsSlot}
use Rattle.funnel.specs.declared.seat.Level.{Level}
use Rattle.funnel.specs.Calls as tree
use Rattle.domain.specs.Views.{CpuView}

module _ {J : Type 0} where
  -- the slot was put as the next version, and the one that was current is retired with a cookie of this number. Then just this number was asked for
  pub record PutsAndAsks (slot cookie : ℕ) (w : WriterView) (c : CpuView J) (w' : WriterView) (c' : CpuView J) : Type 0 where
    pub puts : PutsSlot slot cookie w c.cpu w' c'.cpu
    pub level : Level
    pub asks : tree.Asks cookie c.needs level c'.needs
    pub root : tree.IsAskedFor cookie level c'.needs
    pub turn : c'.turn ≡ c.turn
    pub calls : c'.calls ≡ c.calls

-- What a caller knows of a table and of a lease.
use Rattle.std.specs.Prelude.{List}
use Rattle.sections.specs.Views.{ReadingView, FoundView}
use Rattle.sections.specs.WriterViews.{WriterView}
use Rattle.plugs.specs.declared.rows.Row.{Row}

-- the writer of the table's cell, and its rows
pub record TableState : Type 0 where
  pub writer : WriterView
  pub rows : List Row

-- the held section, and the version that it found
pub record LeaseView : Type 0 where
  pub held : ReadingView
  pub found : FoundView

-- What a caller knows of a chain.
use Rattle.std.specs.Prelude.{ℕ, List}
use Rattle.sections.specs.WriterViews.{WriterView}
use Rattle.shelf.specs.Cells.{CellView}
use Rattle.notify.specs.declared.block.Block.{Block}

-- `writer` puts the versions of the chain, and `blocks` are in the order in which they are called. Their ids are below `ids`
pub record ChainState : Type 0 where
  pub writer : WriterView
  pub ids : ℕ
  pub blocks : List Block

-- the versions of the chain lie in this cell
pub record ChainCell : Type 0 where
  pub place : CellView
  pub ids : ℕ

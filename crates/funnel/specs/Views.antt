-- What a caller knows of a seat at a tree.
use Rattle.std.specs.Prelude.{ℕ, List}
use Rattle.atomic_table.specs.Seated.{TableId}
use Rattle.funnel.specs.declared.view.Shape.{Shape}
use Rattle.funnel.specs.declared.view.Holder.{Holder}
use Rattle.funnel.specs.declared.view.Raise.{Raise}

-- `domain` is the table of the tree, `shape` how many processors and nodes it has, `holder` whose seat it is. `seen` is the history of raises as far as this seat has seen it, `mine` are its own raises there, and `loads` is what its loads of the root found, in order
pub record FunnelView : Type 0 where
  pub domain : TableId
  pub shape : Shape
  pub holder : Holder
  pub seen : List Raise
  pub mine : List Raise
  pub loads : List ℕ

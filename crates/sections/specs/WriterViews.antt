-- What a caller knows of the writer of a cell and of a slot.
use Rattle.std.specs.Prelude.{ℕ, List}
use Rattle.atomic_table.specs.Seated.{TableId}
use Rattle.onedom.specs.declared.event.Event.{Event}
use Rattle.sections.specs.declared.view.Plan.{Plan}
use Rattle.sections.specs.declared.view.Text.{Text}
use Rattle.sections.specs.declared.writer.Standing.{Standing}

-- `cell` has so many `slots`; `version` is current there, in the slot `current`. `standings` say how each slot stands, and `words` are the words of all slots, one behind the other. `plan` says which keys were laid, and how many parts in each slot
pub record WriterView : Type 0 where
  pub domain : TableId
  pub cell : ℕ
  pub slots : ℕ
  pub version : ℕ
  pub current : ℕ
  pub standings : List Standing
  pub words : List ℕ
  pub plan : Plan
  pub seen : List Event
  pub changes : ℕ
  pub texts : List Text

-- slot `slot` of `cell`: its writer is that of the cell, in this domain
pub record SlotView : Type 0 where
  pub domain : TableId
  pub cell : ℕ
  pub slot : ℕ

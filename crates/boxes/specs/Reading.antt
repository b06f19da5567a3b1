-- What a section reads of a cell of boxes.
use Rattle.std.specs.Prelude.{◌≡◌, ℕ, ◌≤◌, [], ◌∷◌, ◌++◌}
use Rattle.onedom.specs.declared.event.Maker.TheVariants.{Processor}
use Rattle.onedom.specs.declared.event.Event.TheVariants.{Find}
use Rattle.onedom.specs.Histories.{version_of, IsBeginning}
use Rattle.sections.specs.declared.view.Step.TheVariants.{LoadIndex}
use Rattle.sections.specs.Shelves.{IsStart}
use Rattle.sections.specs.Views as sections
use Rattle.sections.specs.Views.{ReadingView, FoundView}
use Rattle.sections.specs.Calls.{IsSameCpu}
use Rattle.sections.specs.Reads.{Finds}
use Rattle.sections.specs.Loans.{CatchesUp}
use Rattle.sections.specs.Showing.{LacksParts}
use Rattle.boxes.specs.Boxes.{BoxesView, PinView, IsPinOf}

-- behind one load of the index word the section found this version of the cell, current in what was then seen, and no older than any that the processor had seen there. That is the one event that was made. What the find knows of versions goes on from what the processor knew
pub record FindsVersion (cell : ℕ) (r : ReadingView) (f : FoundView) (c c' : sections.CpuView) : Type 0 where
  pub same : IsSameCpu c c'
  pub since : IsBeginning c.seen c'.seen
  pub mine : c'.mine ≡ c.mine ++ Find r.section cell f.slot f.version (Processor c.processor) ∷ []
  pub index : ℕ
  pub steps : c'.steps ≡ c.steps ++ LoadIndex index ∷ []
  pub not_older : version_of cell c.seen ≤ f.version
  pub texts : IsStart c.texts f.texts
  pub caught : sections.CpuView
  pub at : sections.CpuView
  pub finds : Finds cell r caught at f
  pub catches : CatchesUp r f at c'

-- and borrows its box
pub record FindsBox {V : Type 0} (b : BoxesView) (r : ReadingView) (c c' : sections.CpuView) (p : PinView V) : Type 0 where
  pub section : p.section ≡ r
  pub finds : FindsVersion b.cell r p.found c c'
  pub of : IsPinOf b p

-- the section comes back. The version that it found has no box for this processor, or so many more were found than released here that one part is left
pub record FindsNoBox (b : BoxesView) (r : ReadingView) (c c' : sections.CpuView) (back : ReadingView) : Type 0 where
  pub section : back ≡ r
  pub found : FoundView
  pub finds : FindsVersion b.cell r found c c'
  pub lacks : LacksParts found c'

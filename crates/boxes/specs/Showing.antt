-- A box that is shown to a closure.
use Rattle.std.specs.Prelude.{◌*◌, Option, Some, None}
use Rattle.std.specs.Fn.{Once}
use denote.Ref.{Bor}
use Rattle.parts.specs.declared.part.Part.{Part}
use Rattle.vault.specs.Showing.{ShowsPart}
use Rattle.sections.specs.Views.{CpuView, ReadingView, FoundView}
use Rattle.sections.specs.Calls.{ReadLocks, Unlocks}
use Rattle.sections.specs.Reads.{Finds}
use Rattle.sections.specs.Loans.{offer_found, CatchesUp, OffersBy}
use Rattle.sections.specs.Boxes.{KnowsVault}
use Rattle.sections.specs.Showing.{HasNoneAt}
use Rattle.boxes.specs.Boxes.{BoxesView}

-- a section began. Its look, from which it has its index, knew already that all keys of the vault were laid in the cell. It found this version, which was put by a writer that had laid them, and ended. Its look was the one load of the index word
pub record ReadsCell (b : BoxesView) (c c' : CpuView) (version : FoundView) : Type 0 where
  pub begun : CpuView
  pub section : ReadingView
  pub locks : ReadLocks c begun section
  pub knows : KnowsVault b.cell (8 * b.processors) b.vault locks.between.texts
  pub at : CpuView
  pub finds : Finds b.cell section begun at version
  pub of : OffersBy b.processors b.vault version
  pub found : CpuView
  pub catches : CatchesUp section version at found
  pub ends : Unlocks section found c'

-- the version was put with no box for this processor
pub record ShowsNone (b : BoxesView) (c c' : CpuView) : Type 0 where
  pub version : FoundView
  pub reads : ReadsCell b c c' version
  pub nothing : HasNoneAt c.processor version

module _ {V F T : Type 0} (g : Once F (Bor (Part V) × Unit {0}) T) where
  -- parts of its box were shown to the closure once, which returned this
  pub record ShowsValue (f : F) (b : BoxesView) (c c' : CpuView) (shown : T) : Type 0 where
    pub version : FoundView
    pub reads : ReadsCell b c c' version
    pub shows : ShowsPart g f (offer_found version).round shown

  abbrev pub ShowsBox : F → BoxesView → CpuView → CpuView → Option T → Type 0
  ShowsBox f b c c' None = ShowsNone b c c'
  ShowsBox f b c c' (Some shown) = ShowsValue f b c c' shown

-- A value in a box that is shown, or replaces another one.
use Rattle.std.specs.Prelude.{◌≡◌, Option, Some, None, Box}
use Rattle.std.specs.Fn.{Once}
use denote.Ref.{Bor}
use Rattle.std_alloc.specs.Box.{box_allocator}
use Rattle.parts.specs.declared.part.Part.{Part}
use Rattle.vault.specs.Showing.{ShowsPart}
use Rattle.sections.specs.Views as sections
use Rattle.sections.specs.Views.{ReadingView}
use Rattle.sections.specs.Loans.{CatchesUp, offer_found}
use Rattle.domain.specs.Views.{CpuView}
use Rattle.boxes.specs.Boxes.{BoxesView, BoxWriterView, PinView}
use Rattle.boxes.specs.Reading.{FindsBox, FindsNoBox}
use Rattle.boxes.specs.Writing.{Replaces, ReplacesNone}
use Rattle.srcu.specs.declared.answers.BoxRefusal.{BoxRefusal}
use Rattle.srcu.specs.declared.answers.BoxRefusal.TheVariants.{Memory, NoSlot}

module _ {V F T : Type 0} (g : Once F (Bor (Part V) × Unit {0}) T) where
  -- a section found a box, and showed parts of it to the closure once, which returned this. It stays open
  pub record ShowsFound (f : F) (b : BoxesView) (r : ReadingView) (c c' : sections.CpuView) (shown : T) : Type 0 where
    pub pin : PinView V
    pub found : sections.CpuView
    pub finds : FindsBox b r c found pin
    pub shows : ShowsPart g f (offer_found pin.found).round shown
    pub value : pin.value ≡ shows.0.value
    pub catches : CatchesUp r pin.found found c'

  -- or it found no box to show
  abbrev pub ShowsIn : F → BoxesView → ReadingView → sections.CpuView → sections.CpuView → Option T → Type 0
  ShowsIn f b r c c' None = FindsNoBox b r c c' r
  ShowsIn f b r c c' (Some shown) = ShowsFound f b r c c' shown

module _ {V A J : Type 0} where
  -- an older box came back first, if one could, and then the value was put, in a box from this allocator
  pub record ReplacesBox (value : V) (heap : A) (old : Option (Box V A)) (w : BoxWriterView V A) (c : CpuView J) (w' : BoxWriterView V A) (c' : CpuView J) : Type 0 where
    pub whole : Box V A
    pub holds : whole.value ≡ value
    pub from : box_allocator whole ≡ heap
    pub replaces : Replaces whole old w c w' c'

  -- nothing was put, for want of memory or of a slot, and no older box came back
  abbrev pub ReplacesNoBox : BoxRefusal → BoxWriterView V A → CpuView J → BoxWriterView V A → CpuView J → Type 0
  ReplacesNoBox Memory w c w' c' = (w' ≡ w) × (c' ≡ c)
  ReplacesNoBox NoSlot w c w' c' = ReplacesNone w c w' c'

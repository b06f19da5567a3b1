-- Where no reading was open, none is open when the use of devices has ended.
use Rattle.std.proofs.Common.{ℕ, List, Option, Some, None, Result, Ok, Err, MatchOption, MatchResult, refl, ap, ◌∙◌}
use Rattle.std.specs.Fn.{Once}
use Rattle.std.specs.declared.cmp.Ordering.{Ordering}
use denote.Ref.{Bor}
use Rattle.parts.specs.declared.part.Part.{Part}
use Rattle.parts.specs.declared.terms.Terms.{Terms}
use Rattle.onedom.specs.declared.event.Event.TheVariants.{Find}
use Rattle.onedom.specs.declared.event.Maker.TheVariants.{Processor}
use Rattle.onedom.specs.Histories.{open_sections}
use Rattle.onedom.proofs.CallerLemmas.{open_sections_plain}
use Rattle.sections.specs.Views as sections
use Rattle.sections.specs.Views.{ReadingView, FoundView}
use Rattle.sections.specs.Calls.{LooksInVain}
use Rattle.sections.specs.Loans.{CatchesUp}
use Rattle.domain.specs.Views.{CpuView, with_cpu}
use Rattle.domain.specs.Waiting.{HasNoneOpen}
use Rattle.domain.proofs.CallerLemmas.{SameOpen, none_enclosed, none_ended, none_held, none_looked, none_still}
use Rattle.boxes.specs.Boxes.{BoxesView, PinView}
use Rattle.boxes.specs.Reading.{FindsNoBox, FindsVersion}
use Rattle.boxes.specs.Showing.{ReadsCell, ShowsBox}
use Rattle.registry.specs.declared.index.Entry.{Entry}
use Rattle.registry.specs.Using.{FindsOthers, GivesBack, Takes, TakesNone}

-- The same sections are open

same_version : (cell : ℕ) (r : ReadingView) (f : FoundView) (c c' : sections.CpuView) → FindsVersion cell r f c c' → SameOpen c c'
same_version cell r f c c' h = ap open_sections h.mine ∙ open_sections_plain c.mine (Find r.section cell f.slot f.version (Processor c.processor)) refl (λ s. refl)

same_caught : (r : ReadingView) (f : FoundView) (c c' : sections.CpuView) → CatchesUp r f c c' → SameOpen c c'
same_caught r f c c' h = ap open_sections h.mine

module _ {K V : Type 0} (cmp : K → K → Ordering) (key : K) (b : BoxesView) (r : ReadingView) where
  -- where no device was found that has the key
  same_sought : (terms : Option (Terms (List (Entry K V)))) (c c' : sections.CpuView) → MatchOption terms (FindsNoBox b r c c' r) (λ t. FindsOthers cmp t key b r c c') → SameOpen c c'
  same_sought None c c' h = same_version b.cell r h.found c c' h.finds
  same_sought (Some t) c c' h = same_caught r h.version h.found c' h.catches ∙ same_version b.cell r h.version c h.found h.finds

-- None is open

module _ {J : Type 0} where
  none_read : (b : BoxesView) (c c' : CpuView J) (f : FoundView) → ReadsCell b c.cpu c'.cpu f → HasNoneOpen c → HasNoneOpen c'
  none_read b c c' f h none =
      let finds : SameOpen h.begun h.at = ap open_sections h.finds.adds.mine ∙ open_sections_plain h.begun.mine (Find h.section.section b.cell f.slot f.version (Processor h.begun.processor)) refl (λ s. refl) in
      none_enclosed c (with_cpu h.begun c) (with_cpu h.found c) c' h.section h.locks (same_caught h.section f h.at h.found h.catches ∙ finds) h.ends none

  module _ {X F T E : Type 0} (g : Once F (Bor (Part X) × Unit {0}) T) where
    pub none_shown : (f : F) (b : BoxesView) (c c' : CpuView J) (r : Result (Option T) E) → MatchResult r (λ shown. ShowsBox g f b c.cpu c'.cpu shown) (λ _. LooksInVain c.cpu c'.cpu) → HasNoneOpen c → HasNoneOpen c'
    none_shown f b c c' (Ok None) h none = none_read b c c' h.version h.reads none
    none_shown f b c c' (Ok (Some shown)) h none = none_read b c c' h.version h.reads none
    none_shown f b c c' (Err e) h none = none_looked c c' h none

  module _ {K V : Type 0} (cmp : K → K → Ordering) (key : K) (b : BoxesView) where
    -- a held section is no reading
    pub none_taken : (c c' : CpuView J) (pin : PinView (List (Entry K V))) (place : ℕ) → Takes cmp key b c.cpu c'.cpu pin place → HasNoneOpen c → HasNoneOpen c'
    none_taken c c' pin place h none = none_still (with_cpu h.begun c) c' (same_version b.cell h.section pin.found h.begun c'.cpu h.finds.finds) (none_held c (with_cpu h.begun c) h.section h.locks none)

    pub none_sought : (terms : Option (Terms (List (Entry K V)))) (c c' : CpuView J) → TakesNone cmp terms key b c.cpu c'.cpu → HasNoneOpen c → HasNoneOpen c'
    none_sought terms c c' h none =
        let begun = with_cpu h.begun c in
        let released = with_cpu h.released c in
        none_ended h.section released c' h.ends (none_still begun released (same_sought cmp key b h.section terms h.begun h.released h.finds) (none_held c begun h.section h.locks none))

  pub none_given : {X : Type 0} (pin : PinView X) (c c' : CpuView J) → GivesBack pin c.cpu c'.cpu → HasNoneOpen c → HasNoneOpen c'
  none_given pin c c' h none =
      let released = with_cpu h.released c in
      none_ended pin.section released c' h.ends (none_still c released (same_caught pin.section pin.found c.cpu h.released h.catches) none)

-- A call for boxes opens no reading, or closes the one that it opened.
use Rattle.std.proofs.Common.{◌≡◌, ℕ, Option, Some, None, Result, Ok, Err, MatchOption, MatchResult, refl, sym, ap, ◌∙◌, subst}
use Rattle.std.specs.Prelude.{Box}
use Rattle.std.specs.Fn.{Once}
use denote.Ref.{Bor}
use Rattle.atomic_table.specs.Seated.{TableId}
use Rattle.parts.specs.declared.part.Part.{Part}
use Rattle.onedom.specs.declared.event.Event.TheVariants.{Find}
use Rattle.onedom.specs.declared.event.Maker.TheVariants.{Processor}
use Rattle.onedom.specs.Histories.{open_sections}
use Rattle.onedom.proofs.CallerLemmas.{open_sections_plain}
use Rattle.sections.specs.Views as sections
use Rattle.sections.specs.Views.{ReadingView, FoundView}
use Rattle.sections.specs.Calls.{LooksInVain}
use Rattle.sections.specs.Loans.{CatchesUp}
use Rattle.sections.specs.WriterViews.{WriterView}
use Rattle.domain.specs.Views.{CpuView, Stays, with_cpu}
use Rattle.domain.specs.Waiting.{HasNoneOpen}
use Rattle.domain.proofs.CallerLemmas.{SameOpen, same_put, same_reclaimed, none_still, none_enclosed, none_looked}
use Rattle.driver.specs.Works.{IsKept}
use Rattle.driver.proofs.CallerLemmas.{kept_open}
use Rattle.boxes.specs.Boxes.{BoxesView, BoxWriterView, PinView, IsPinOf}
use Rattle.boxes.specs.Reading.{FindsVersion, FindsBox, FindsNoBox}
use Rattle.boxes.specs.Showing.{ReadsCell, ShowsBox}
use Rattle.boxes.specs.Writing.{BringsBack, Equips, IsHandedBack, NoneFree, PutsNone, PutsVersion, Replaces, ReplacesNone, Retires}

-- Reading

same_version : (cell : ℕ) (r : ReadingView) (f : FoundView) (c c' : sections.CpuView) → FindsVersion cell r f c c' → SameOpen c c'
same_version cell r f c c' h = ap open_sections h.mine ∙ open_sections_plain c.mine (Find r.section cell f.slot f.version (Processor c.processor)) refl (λ s. refl)

same_caught : (r : ReadingView) (f : FoundView) (c c' : sections.CpuView) → CatchesUp r f c c' → SameOpen c c'
same_caught r f c c' h = ap open_sections h.mine

module _ {J : Type 0} where
  -- a version that is found, and a part that is paid, keep what is open
  pub kept_version : (cell : ℕ) (r : ReadingView) (f : FoundView) (c c' : CpuView J) → FindsVersion cell r f c.cpu c'.cpu → c' ≡ with_cpu c'.cpu c → Stays c c' → IsKept c c'
  kept_version cell r f c c' h rest stays = kept_open c c' h.same rest (same_version cell r f c.cpu c'.cpu h) stays

  pub kept_caught : (r : ReadingView) (f : FoundView) (c c' : CpuView J) → CatchesUp r f c.cpu c'.cpu → c' ≡ with_cpu c'.cpu c → Stays c c' → IsKept c c'
  kept_caught r f c c' h rest stays = kept_open c c' h.same rest (same_caught r f c.cpu c'.cpu h) stays

module _ {J : Type 0} where
  none_read : (b : BoxesView) (c c' : CpuView J) (f : FoundView) → ReadsCell b c.cpu c'.cpu f → HasNoneOpen c → HasNoneOpen c'
  none_read b c c' f h none =
      let finds : SameOpen h.begun h.at = ap open_sections h.finds.adds.mine ∙ open_sections_plain h.begun.mine (Find h.section.section b.cell f.slot f.version (Processor h.begun.processor)) refl (λ s. refl) in
      none_enclosed c (with_cpu h.begun c) (with_cpu h.found c) c' h.section h.locks (same_caught h.section f h.at h.found h.catches ∙ finds) h.ends none

  module _ {V F T E : Type 0} (g : Once F (Bor (Part V) × Unit {0}) T) where
    pub none_shown : (f : F) (b : BoxesView) (c c' : CpuView J) (r : Result (Option T) E) → MatchResult r (λ shown. ShowsBox g f b c.cpu c'.cpu shown) (λ _. LooksInVain c.cpu c'.cpu) → HasNoneOpen c → HasNoneOpen c'
    none_shown f b c c' (Ok None) h none = none_read b c c' h.version h.reads none
    none_shown f b c c' (Ok (Some shown)) h none = none_read b c c' h.version h.reads none
    none_shown f b c c' (Err e) h none = none_looked c c' h none

module _ {V : Type 0} where
  same_held : (b : BoxesView) (h : ReadingView) (c c' : sections.CpuView) (r : Result (PinView V) ReadingView) → MatchResult r (λ p. FindsBox b h c c' p) (λ back. FindsNoBox b h c c' back) → SameOpen c c'
  same_held b h c c' (Ok p) f = same_version b.cell h p.found c c' f.finds
  same_held b h c c' (Err back) f = same_version b.cell h f.found c c' f.finds

  pub none_sought : {J : Type 0} (b : BoxesView) (h : ReadingView) (c c' : CpuView J) (r : Result (PinView V) ReadingView) → MatchResult r (λ p. FindsBox b h c.cpu c'.cpu p) (λ back. FindsNoBox b h c.cpu c'.cpu back) → HasNoneOpen c → HasNoneOpen c'
  none_sought b h c c' r f none = none_still c c' (same_held b h c.cpu c'.cpu r f) none

  -- the section is of the domain as before, and the pin is of the boxes
  pub held_here : (d : TableId) (b : BoxesView) (h : ReadingView) (c c' : sections.CpuView) (r : Result (PinView V) ReadingView)
      → MatchResult r (λ p. FindsBox b h c c' p) (λ back. FindsNoBox b h c c' back) → h.domain ≡ d → MatchResult r (λ p. (p.section.domain ≡ d) × IsPinOf b p) (λ back. back.domain ≡ d)
  held_here d b h c c' (Ok p) f here = (ap (λ (z : ReadingView). z.domain) f.section ∙ here, f.of)
  held_here d b h c c' (Err back) f here = ap (λ (z : ReadingView). z.domain) f.section ∙ here

pub none_paid : {J : Type 0} (h : ReadingView) (f : FoundView) (c c' : CpuView J) → CatchesUp h f c.cpu c'.cpu → HasNoneOpen c → HasNoneOpen c'
none_paid h f c c' caught none = none_still c c' (same_caught h f c.cpu c'.cpu caught) none

-- Writing

module _ {V A J : Type 0} where
  none_put : (w w' : BoxWriterView V A) (cookie : ℕ) (c c' : CpuView J) → PutsVersion cookie w c w' c' → HasNoneOpen c → HasNoneOpen c'
  none_put w w' cookie c c' h none = none_still c c' (same_put h.slot cookie h.filled w'.writer c.cpu c'.cpu h.puts.puts) none

  pub none_reclaimed : (w w' : BoxWriterView V A) (c c' : CpuView J) (back : Option (Box V A)) → BringsBack back w c.cpu w' c'.cpu → HasNoneOpen c → HasNoneOpen c'
  none_reclaimed w w' c c' None h none = none_still c c' (same_reclaimed w.writer w'.writer c.cpu c'.cpu h.reclaims) none
  none_reclaimed w w' c c' (Some b) h none = none_still c c' (same_reclaimed w.writer h.2.asked c.cpu c'.cpu h.2.reclaims) none

  pub none_put_none : (w w' : BoxWriterView V A) (c c' : CpuView J) (r : Option ℕ) → MatchOption r (NoneFree w × (w' ≡ w) × (c' ≡ c)) (λ cookie. PutsNone cookie w c w' c') → HasNoneOpen c → HasNoneOpen c'
  none_put_none w w' c c' None h none = subst (λ (z : CpuView J). HasNoneOpen z) (sym h.2) none
  none_put_none w w' c c' (Some cookie) h none = none_put w w' cookie c c' h.version none

  pub none_retired : {E : Type 0} (w w' : BoxWriterView V A) (c c' : CpuView J) (r : Result (Option (Box V A)) E) → MatchResult r (λ old. Retires old w c w' c') (λ _. ReplacesNone w c w' c') → HasNoneOpen c → HasNoneOpen c'
  none_retired w w' c c' (Ok old) h none = none_put h.freed w' h.cookie h.at c' h.puts.version (none_reclaimed w h.freed c h.at old h.back none)
  none_retired w w' c c' (Err e) h none = none_still c c' (same_reclaimed w.writer w'.writer c.cpu c'.cpu h.back.reclaims) none

  pub none_replaced : (whole : Box V A) (w w' : BoxWriterView V A) (c c' : CpuView J) (r : Result (Option (Box V A)) (Box V A)) → MatchResult r (λ old. Replaces whole old w c w' c') (λ back. (back ≡ whole) × ReplacesNone w c w' c') → HasNoneOpen c → HasNoneOpen c'
  none_replaced whole w w' c c' (Ok old) h none = none_put h.freed w' h.cookie h.at c' h.puts.version (none_reclaimed w h.freed c h.at old h.back none)
  none_replaced whole w w' c c' (Err back) h none = none_still c c' (same_reclaimed w.writer w'.writer c.cpu c'.cpu h.1.back.reclaims) none

module _ {J : Type 0} where
  pub none_equipped : {B : Type 0} (w : WriterView) (writer_of : B → WriterView) (c c' : CpuView J) (r : Result B WriterView) → MatchResult r (λ m. Equips w c (writer_of m) c') (λ back. IsHandedBack w back × (c' ≡ c)) → HasNoneOpen c → HasNoneOpen c'
  none_equipped w writer_of c c' (Ok m) h none = none_still c c' (same_put h.slot h.cookie h.equipped (writer_of m) c.cpu c'.cpu h.puts.puts) none
  none_equipped w writer_of c c' (Err back) h none = subst (λ (z : CpuView J). HasNoneOpen z) (sym h.1) none

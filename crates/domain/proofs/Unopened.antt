-- Calls for versions open no section.
use Rattle.std.proofs.Common.{◌≡◌, ℕ, zero, suc, ◌+◌, Bool, false, None, List, [], ◌∷◌, ◌++◌, refl, sym, ap, ◌∙◌, append-nil, append_assoc}
use Rattle.onedom.specs.declared.event.Event.{Event}
use Rattle.onedom.specs.declared.event.Event.TheVariants.{Ask, Find, Put}
use Rattle.onedom.specs.declared.event.Maker.TheVariants.{Processor}
use Rattle.onedom.specs.Histories.{open_sections, section_begun, ends}
use Rattle.onedom.proofs.CallerLemmas.{open_sections_plain}
use Rattle.sections.specs.declared.view.Step.{Step}
use Rattle.sections.specs.declared.writer.Standing.{Standing}
use Rattle.sections.specs.declared.writer.Standing.TheVariants.{Blank, Out, Current, Retired}
use Rattle.sections.specs.Views as sections
use Rattle.sections.specs.Glossary.{ReadingView, FoundView, Loads, Finds, WriterView, PutsSlot, Reclaims, question, questions, standing_of}
use Rattle.domain.specs.Glossary.{CpuView, LoadsAll, HasNoneOpen, Act, Acts}
use Rattle.domain.proofs.Synchronizing.{none_open}

-- the same sections are open
abbrev pub SameOpen : sections.CpuView → sections.CpuView → Type 0
SameOpen c c' = open_sections c'.mine ≡ open_sections c.mine

pub same_loaded : {l : Step} (c c' : sections.CpuView) → Loads l c c' → SameOpen c c'
same_loaded c c' h = ap open_sections h.mine

pub same_found : (cell : ℕ) (r : ReadingView) (f : FoundView) (c c' : sections.CpuView) → Finds cell r c c' f → SameOpen c c'
same_found cell r f c c' h = ap open_sections h.adds.mine ∙ open_sections_plain c.mine (Find r.section cell f.slot f.version (Processor c.processor)) refl (λ s. refl)

pub same_put : (slot cookie : ℕ) (w w' : WriterView) (c c' : sections.CpuView) → PutsSlot slot cookie w c w' c' → SameOpen c c'
same_put slot cookie w w' c c' h =
    ap open_sections h.notes.adds.mine ∙ (open_sections_plain h.between.mine _ refl (λ s. refl)
    ∙ (ap open_sections h.puts.mine ∙ open_sections_plain c.mine (Put w.cell slot (w.version + 1) (Processor c.processor)) refl (λ s. refl)))

asked_one : (p : ℕ) (done : Bool) (s : Standing) (mine : List Event) → open_sections (mine ++ question p done s) ≡ open_sections mine
asked_one p done Blank mine = ap open_sections (append-nil mine)
asked_one p done Out mine = ap open_sections (append-nil mine)
asked_one p done Current mine = ap open_sections (append-nil mine)
asked_one p done (Retired number) mine = open_sections_plain mine (Ask number done (Processor p)) refl (λ s. refl)

asked_all : (p : ℕ) (done : ℕ → Bool) (w : WriterView) (slots : ℕ) (mine : List Event) → open_sections (mine ++ questions p done w slots) ≡ open_sections mine
asked_all p done w zero mine = ap open_sections (append-nil mine)
asked_all p done w (suc x) mine =
    ap open_sections (sym (append_assoc mine (questions p done w x) (question p (done x) (standing_of w x))))
    ∙ (asked_one p (done x) (standing_of w x) (mine ++ questions p done w x) ∙ asked_all p done w x mine)

pub same_reclaimed : (w w' : WriterView) (c c' : sections.CpuView) → Reclaims w c w' c' → SameOpen c c'
same_reclaimed w w' c c' h = ap open_sections h.mine ∙ asked_all c.processor h.done w w.slots c.mine

module _ {J : Type 0} where
  -- all words of a version are loaded
  pub same_all_loaded : {r : ReadingView} {f : FoundView} {words : List ℕ} (c c' : CpuView J) → LoadsAll r f words c c' → SameOpen c.cpu c'.cpu
  same_all_loaded c c' h = ap open_sections h.mine

  -- where none was open, none is
  pub none_still : (c c' : CpuView J) → SameOpen c.cpu c'.cpu → HasNoneOpen c → HasNoneOpen c'
  none_still c c' same none = none_open c c' none same

  -- a call that adds no event leaves the same sections open, and so does one whose event begins and ends none
  module _ (p : ℕ) (a : Act) (c c' : CpuView J) (acts : Acts p a c c') where
    pub same_quiet : a.events ≡ [] → SameOpen c.cpu c'.cpu
    same_quiet none = ap open_sections (acts.events.mine ∙ (ap (λ l. c.cpu.mine ++ l) none ∙ append-nil c.cpu.mine))

    pub same_plain : (e : Event) → a.events ≡ e ∷ [] → section_begun e ≡ None → ((s : ℕ) → ends s e ≡ false) → SameOpen c.cpu c'.cpu
    same_plain e one none other = ap open_sections (acts.events.mine ∙ ap (λ l. c.cpu.mine ++ l) one) ∙ open_sections_plain c.cpu.mine e none other

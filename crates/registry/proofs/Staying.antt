-- The cell is still one of the processor's domain when the use of devices has ended, and when versions came home.
use Rattle.std.proofs.Common.{ℕ, List, Option, Some, None, Result, Ok, Err, MatchOption, MatchResult, sym, ◌∙◌}
use Rattle.std.specs.Fn.{Once}
use Rattle.std.specs.declared.cmp.Ordering.{Ordering}
use denote.Ref.{Bor}
use Rattle.parts.specs.declared.part.Part.{Part}
use Rattle.parts.specs.declared.terms.Terms.{Terms}
use Rattle.sections.specs.Views.{CpuView, FoundView, ReadingView}
use Rattle.sections.specs.Calls.{IsSameCpu, LooksInVain}
use Rattle.domain.proofs.CallerLemmas.{same_begun}
use Rattle.boxes.specs.Boxes.{BoxesView, BoxWriterView, IsCellOf, PinView}
use Rattle.boxes.specs.Reading.{FindsNoBox}
use Rattle.boxes.specs.Showing.{ReadsCell, ShowsBox}
use Rattle.registry.specs.declared.index.Entry.{Entry}
use Rattle.registry.specs.Changing.{Collects}
use Rattle.registry.specs.Using.{FindsOthers, GivesBack, Takes, TakesNone}
use Rattle.registry.proofs.Opening.{cpu_collected}

cell_on : (b : BoxesView) (c c' : CpuView) → IsSameCpu c c' → IsCellOf c b → IsCellOf c' b
cell_on b c c' same cell = (cell.0 ∙ sym same.0, cell.1 ∙ sym same.1)

cell_read : (b : BoxesView) (c c' : CpuView) (f : FoundView) → ReadsCell b c c' f → IsCellOf c b → IsCellOf c' b
cell_read b c c' f h cell = cell_on b h.found c' h.ends.same (cell_on b h.at h.found h.catches.same (cell_on b h.begun h.at h.finds.adds.same (cell_on b c h.begun (same_begun c h.begun h.section h.locks) cell)))

module _ {X F T E : Type 0} (g : Once F (Bor (Part X) × Unit {0}) T) where
  pub cell_shown : (f : F) (b : BoxesView) (c c' : CpuView) (r : Result (Option T) E) → MatchResult r (λ shown. ShowsBox g f b c c' shown) (λ _. LooksInVain c c') → IsCellOf c b → IsCellOf c' b
  cell_shown f b c c' (Ok None) h cell = cell_read b c c' h.version h.reads cell
  cell_shown f b c c' (Ok (Some shown)) h cell = cell_read b c c' h.version h.reads cell
  cell_shown f b c c' (Err e) h cell = cell_on b c c' h.looks.load.same cell

module _ {K V : Type 0} (cmp : K → K → Ordering) (key : K) (b : BoxesView) where
  pub cell_taken : (c c' : CpuView) (pin : PinView (List (Entry K V))) (place : ℕ) → Takes cmp key b c c' pin place → IsCellOf c b → IsCellOf c' b
  cell_taken c c' pin place h cell = cell_on b h.begun c' h.finds.finds.same (cell_on b c h.begun (same_begun c h.begun h.section h.locks) cell)

  cell_looked : (terms : Option (Terms (List (Entry K V)))) (r : ReadingView) (c c' : CpuView) → MatchOption terms (FindsNoBox b r c c' r) (λ t. FindsOthers cmp t key b r c c') → IsCellOf c b → IsCellOf c' b
  cell_looked None r c c' h cell = cell_on b c c' h.finds.same cell
  cell_looked (Some t) r c c' h cell = cell_on b h.found c' h.catches.same (cell_on b c h.found h.finds.same cell)

  pub cell_sought : (terms : Option (Terms (List (Entry K V)))) (c c' : CpuView) → TakesNone cmp terms key b c c' → IsCellOf c b → IsCellOf c' b
  cell_sought terms c c' h cell = cell_on b h.released c' h.ends.same (cell_looked terms h.section h.begun h.released h.finds (cell_on b c h.begun (same_begun c h.begun h.section h.locks) cell))

pub cell_given : {X : Type 0} (b : BoxesView) (pin : PinView X) (c c' : CpuView) → GivesBack pin c c' → IsCellOf c b → IsCellOf c' b
cell_given b pin c c' h cell = cell_on b h.released c' h.ends.same (cell_on b c h.released h.catches.same cell)

pub cell_vain : (b : BoxesView) (c c' : CpuView) → LooksInVain c c' → IsCellOf c b → IsCellOf c' b
cell_vain b c c' h cell = cell_on b c c' h.looks.load.same cell

pub cell_collected : {V A : Type 0} (b : BoxesView) (w w' : BoxWriterView V A) (c c' : CpuView) → Collects w c w' c' → IsCellOf c b → IsCellOf c' b
cell_collected b w w' c c' h cell = cell_on b c c' (cpu_collected w w' c c' h) cell

-- A box that is shown in a section of one call, as it is seen by who asks for it.
use Rattle.std.specs.Prelude.{MatchOption}
use Rattle.std.specs.Fn.{Once}
use denote.Ref.{Bor}
use Rattle.std.proofs.Common.{◌≡◌, ℕ, ◌*◌, ◌<◌, Option, Some, None, Result, Ok, Err, MatchResult, ap, ◌∙◌, arith}
use Rattle.parts.specs.declared.part.Part.{Part}
use Rattle.vault.specs.Showing.{ShowsPart}
use Rattle.sections.specs.declared.view.Offer.{Offer}
use Rattle.sections.specs.Shelves.{offer_of}
use Rattle.sections.specs.Views.{CpuView, FoundView}
use Rattle.sections.specs.Calls.{LooksInVain}
use Rattle.sections.specs.Loans.{offer_found}
use Rattle.sections.specs.Boxes.{KnowsVault}
use Rattle.sections.specs.Showing.{HasNoneAt}
use Rattle.sections.specs.OneCall.{FindsInSection}
use Rattle.sections.proofs.CallerLemmas.{vault_stays}
use Rattle.domain.specs.Views as domain
use Rattle.boxes.specs.Boxes.{BoxesView, Stored, BoxWriterView}
use Rattle.boxes.specs.Showing.{ReadsCell, ShowsNone, ShowsBox}
use Rattle.boxes.specs.Writing.{PutsBox}
use Rattle.boxes.proofs.Reading.{offers_by}

reads_cell : (b : BoxesView) (c c' : CpuView) (known : FoundView) → KnowsVault b.cell (8 * b.processors) b.vault known.texts → (h : FindsInSection b.cell known c c') → ReadsCell b c c' h.ends.found
reads_cell b c c' known knew h =
    let locks = h.begins.locks in
    let knows = vault_stays b.cell (8 * b.processors) b.vault known.texts locks.between.texts h.begins.texts knew in record {
      begun = h.begun;
      section = h.section;
      locks = locks;
      knows = knows;
      at = h.ends.at;
      finds = h.ends.finds;
      of = offers_by b.cell b.processors b.vault locks.between.texts h.section h.begun h.ends.at h.ends.found knows locks.enters.adds.texts h.ends.finds;
      found = h.ends.caught;
      catches = h.ends.catches;
      ends = h.ends.ends;
    }

module _ {V F T : Type 0} (g : Once F (Bor (Part V) × Unit {0}) T) (f : F) (b : BoxesView) (c c' : CpuView) (known : FoundView) (knew : KnowsVault b.cell (8 * b.processors) b.vault known.texts) where
  shows_box : (shown : Option T) → (reads : FindsInSection b.cell known c c') × MatchOption shown (HasNoneAt c.processor reads.ends.found) (λ u. ShowsPart g f (offer_found reads.ends.found).round u) → ShowsBox g f b c c' shown
  shows_box None h = record { version = h.0.ends.found; reads = reads_cell b c c' known knew h.0; nothing = h.1 }
  shows_box (Some u) h = record { version = h.0.ends.found; reads = reads_cell b c c' known knew h.0; shows = h.1 }

  pub shows_or_refuses : {E : Type 0} (r : Result (Option T) E) → MatchResult r (λ shown. (reads : FindsInSection b.cell known c c') × MatchOption shown (HasNoneAt c.processor reads.ends.found) (λ u. ShowsPart g f (offer_found reads.ends.found).round u)) (λ _. LooksInVain c c')
      → MatchResult r (λ shown. ShowsBox g f b c c' shown) (λ _. LooksInVain c c')
  shows_or_refuses (Ok shown) h = shows_box shown h
  shows_or_refuses (Err e) h = h

-- the version of a box that was put is shown on each processor
pub shown_once_put : {V A J : Type 0} {s : Stored V A} {cookie : ℕ} {w w' : BoxWriterView V A} {c c' : domain.CpuView J} → PutsBox s cookie w c w' c'
    → (b : BoxesView) (d d' : CpuView) (h : ShowsNone b d d') → offer_found h.version ≡ offer_of w.writer.cell w'.writer.version c'.cpu.texts → d.processor < w.processors → ⊥
shown_once_put put b d d' h same lt = let none = h.nothing in let all = ap (λ (o : Offer). o.each) same ∙ put.each in omega (arith, none, all, lt)

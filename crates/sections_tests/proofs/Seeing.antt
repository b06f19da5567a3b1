-- Who knows a cell's vault still knows it after each call, and may draw from what it finds there.
use Rattle.std.proofs.Common.{◌≡◌, ℕ, ◌*◌, ◌<◌, ◌≤◌, Bool, List, sym, ◌∙◌, subst, arith}
use Rattle.atomic_table.specs.Seated.{TableId}
use Rattle.onedom.specs.declared.event.Event.{Event}
use Rattle.sections.specs.Views.{CpuView, ReadingView, FoundView}
use Rattle.sections.specs.Words.{cells_in}
use Rattle.sections.specs.Shelves.{IsStart}
use Rattle.sections.specs.Calls.{IsSameCpu, LooksAndBegins, AddsEvent}
use Rattle.sections.specs.Reads.{Finds}
use Rattle.sections.specs.Loans.{OffersBy, CatchesUp}
use Rattle.sections.proofs.CallerLemmas.{vault_stays, finds_offer}
use Rattle.sections_tests.specs.Ready.{CanSee}

pub can_later : {vault : TableId} (c d : CpuView) → IsSameCpu c d → IsStart c.texts d.texts → CanSee vault c → CanSee vault d
can_later {vault} c d same start h = record { two = same.1 ∙ h.two; cell = subst (λ (t : TableId). 0 < cells_in t) (sym same.0) h.cell; knows = vault_stays 0 16 vault c.texts d.texts start h.knows }

module _ {vault : TableId} {c d : CpuView} where
  pub can_begun : {b : Bool} {r : ReadingView} → LooksAndBegins b c d r → CanSee vault c → CanSee vault d
  can_begun h s = can_later h.between d h.enters.adds.same h.enters.adds.texts (can_later c h.between h.looks.load.same h.looks.load.texts s)

  pub can_told : {other : List Event} {reached : ℕ} {e : Event} → AddsEvent other reached e c d → CanSee vault c → CanSee vault d
  can_told h = can_later c d h.same h.texts

  module _ {r : ReadingView} {f : FoundView} where
    pub can_caught : CatchesUp r f c d → CanSee vault c → CanSee vault d
    can_caught h = can_later c d h.same h.texts_since

    pub can_found : Finds 0 r c d f → CanSee vault c → CanSee vault d
    can_found h = can_later c d h.adds.same h.adds.texts

    pub offers : Finds 0 r c d f → CanSee vault c → OffersBy d.processors vault f
    offers h s = let k = can_found h s in let o = finds_offer 0 16 vault r c d f h k.knows in let two = k.two in let le = o.0 in (omega (arith, two, le), o.1)

pub offers_as : {vault : TableId} {m n : ℕ} {f g : FoundView} → g ≡ f → n ≡ m → OffersBy m vault f → OffersBy n vault g
offers_as {vault} found count = subst (λ (z : ℕ × FoundView). OffersBy z.0 vault z.1) (λ j. (sym count j, sym found j))

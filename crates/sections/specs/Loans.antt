-- What a section borrows.
use Rattle.std.specs.Prelude.{◌≡◌, ℕ, ◌*◌, ◌≤◌}
use Rattle.atomic_table.specs.Seated.{TableId}
use Rattle.parts.specs.declared.part.Part.{Part}
use Rattle.onedom.specs.Histories.{IsBeginning}
use Rattle.sections.specs.declared.view.Offer.{Offer}
use Rattle.sections.specs.Shelves.{IsStart, offer_of}
use Rattle.sections.specs.Banks.{vault_in}
use Rattle.sections.specs.Views.{CpuView, ReadingView, FoundView}
use Rattle.sections.specs.Calls.{IsSameCpu, IsSeenBy}

-- a section with a part of the version that it found
pub record LoanView : Type 0 where
  pub section : ReadingView
  pub found : FoundView

-- what the version that was found offers
abbrev pub offer_found : FoundView → Offer
offer_found f = offer_of f.cell f.version f.texts

-- it was put by a writer that had laid all keys of this vault
abbrev pub OffersBy : ℕ → TableId → FoundView → Type 0
OffersBy processors vault f = (8 * processors ≤ (offer_found f).keys) × (vault_in (offer_found f).vault ≡ vault)

-- it is one part, of the round that the version offers
abbrev pub IsPartOf : {X : Type 0} → Part X → FoundView → Type 0
IsPartOf part f = (part.count ≡ 1) × (part.round ≡ (offer_found f).round)

-- no event was made, and no step noted. What is then seen goes on from what was seen before, from the beginning of the section, and from where the version was found
pub record CatchesUp (r : ReadingView) (f : FoundView) (c d : CpuView) : Type 0 where
  pub same : IsSameCpu c d
  pub mine : d.mine ≡ c.mine
  pub steps : d.steps ≡ c.steps
  pub since : IsBeginning c.seen d.seen
  pub later : c.changes ≤ d.changes
  pub texts_since : IsStart c.texts d.texts
  pub history : IsSeenBy d
  pub covers_section : IsBeginning r.seen d.seen
  pub covers : IsBeginning f.seen d.seen
  pub not_before : f.changes ≤ d.changes
  pub texts : IsStart f.texts d.texts

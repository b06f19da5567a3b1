-- What a caller knows of a cell of boxes.
use Rattle.std.specs.Prelude.{◌≡◌, ℕ, ◌+◌, List, [], ◌∷◌, Option, Some, None, slice_index_or}
use Rattle.atomic_table.specs.Seated.{TableId}
use Rattle.sections.specs.Views.{CpuView, ReadingView, FoundView}
use Rattle.sections.specs.WriterViews.{WriterView}
use Rattle.sections.specs.Loans.{OffersBy}
use Rattle.domain.specs.Views.{DomainView}

-- a cell of boxes, of a domain of so many processors. The parts of its boxes lie in the vault
pub record BoxesView : Type 0 where
  pub domain : TableId
  pub cell : ℕ
  pub processors : ℕ
  pub vault : TableId

-- it is a cell of the processor's domain
abbrev pub IsCellOf : CpuView → BoxesView → Type 0
IsCellOf c b = (b.domain ≡ c.domain) × (b.processors ≡ c.processors)

-- it is a cell of this domain
abbrev pub IsCellIn : DomainView → BoxesView → Type 0
IsCellIn d b = (b.domain ≡ d.domain) × (b.processors ≡ d.processors)

-- an open section with a box that it found: it reads this value
pub record PinView (V : Type 0) : Type 0 where
  pub section : ReadingView
  pub found : FoundView
  pub value : V

-- a box that was put: what is in it, its allocator, and the number by which versions are known to be of it
pub record Stored (V A : Type 0) : Type 0 where
  pub value : V
  pub heap : A
  pub round : ℕ

-- the writer of a cell of boxes, and for each slot the box that was put there and did not come back yet
pub record BoxWriterView (V A : Type 0) : Type 0 where
  pub writer : WriterView
  pub processors : ℕ
  pub vault : TableId
  pub stored : List (Option (Stored V A))

-- the box was found in this cell
abbrev pub IsPinOf : {V : Type 0} → BoxesView → PinView V → Type 0
IsPinOf b p = OffersBy b.processors b.vault p.found

module _ {V A : Type 0} where
  -- the cell, as those know it who read there
  abbrev pub cell_of : BoxWriterView V A → BoxesView
  cell_of w = record { domain = w.writer.domain; cell = w.writer.cell; processors = w.processors; vault = w.vault }

  abbrev pub stored_at : BoxWriterView V A → ℕ → Option (Stored V A)
  stored_at w x = slice_index_or w.stored x None

  -- how many boxes have yet to come back
  abbrev pub one_of : Option (Stored V A) → ℕ
  one_of None = 0
  one_of (Some s) = 1

  abbrev pub left_in : List (Option (Stored V A)) → ℕ
  left_in [] = 0
  left_in (o ∷ l) = one_of o + left_in l

-- A cell, as what reads it knows it.
use Rattle.std.specs.Prelude.{◌≡◌, ℕ, List, ◌<◌, ◌∷◌, drop, slice_index_or}
use Rattle.atomic_table.specs.Seated.{TableId}
use Rattle.sections.specs.Words.{cells_in}
use Rattle.sections.specs.WriterViews.{WriterView}

-- the number of a cell, and the domain that it is of
pub record CellView : Type 0 where
  pub domain : TableId
  pub cell : ℕ

-- the cell of this writer
abbrev pub cell_of : WriterView → CellView
cell_of w = record { domain = w.domain; cell = w.cell }

-- it is a cell of this domain, and of no other one
abbrev pub IsCellIn : TableId → CellView → Type 0
IsCellIn domain v = (v.domain ≡ domain) × (v.cell < cells_in domain)

-- a domain, as the list of numbers that a tag keeps
abbrev pub numbers_of : TableId → List ℕ
numbers_of d = d.words ∷ d.slots ∷ d.views_name ∷ d.atom ∷ d.block ∷ d.offset ∷ d.slot_names

-- the domain that has these numbers
abbrev pub domain_at : List ℕ → TableId
domain_at l = record { words = slice_index_or l 0 0; slots = slice_index_or l 1 0; views_name = slice_index_or l 2 0; atom = slice_index_or l 3 0; block = slice_index_or l 4 0; offset = slice_index_or l 5 0; slot_names = drop 6 l }

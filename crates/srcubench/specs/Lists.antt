-- Entries that go through a list.
use Rattle.std.specs.Prelude.{◌≡◌, ℕ, List, length}
use Rattle.segs.specs.MarkedList.{Mark, marked}

-- there are so many entries, and each has this mark
abbrev pub AreMarked : Mark → ℕ → List (ℕ × Mark) → Type 0
AreMarked mark many list = (entries : List ℕ) × (length entries ≡ many) × (list ≡ marked mark entries)

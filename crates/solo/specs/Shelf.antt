-- What is current in the cells of a domain in one hand.
use Rattle.std.specs.Prelude.{ℕ, List, [], ◌∷◌, slice_index_or, slice_set}
use Rattle.onedom.specs.declared.event.Event.{Event}
use Rattle.onedom.specs.Histories.{version_of}
use Rattle.sections.specs.declared.view.Text.{Text}
use Rattle.sections.specs.Shelves.{blank_words, words_of}

-- the sixteen words that are current in each of the four cells that a domain may have
abbrev pub Shelf : Type 0
Shelf = List (List ℕ)

-- those of the version that was put there last
abbrev pub current_words : List Event → List Text → ℕ → List ℕ
current_words history texts cell = words_of cell (version_of cell history) texts

abbrev pub shelf_of : List Event → List Text → Shelf
shelf_of history texts = current_words history texts 0 ∷ current_words history texts 1 ∷ current_words history texts 2 ∷ current_words history texts 3 ∷ []

-- nothing was put
abbrev pub blank_shelf : Shelf
blank_shelf = blank_words ∷ blank_words ∷ blank_words ∷ blank_words ∷ []

-- the words of one cell
abbrev pub in_cell : ℕ → Shelf → List ℕ
in_cell cell shelf = slice_index_or shelf cell blank_words

-- these words are current in the cell then, and in each other one what was
abbrev pub with_current : ℕ → List ℕ → Shelf → Shelf
with_current cell words shelf = slice_set shelf cell words

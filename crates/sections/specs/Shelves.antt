-- What the rule of a domain's table says of cells and slots.
use Rattle.std.specs.Prelude.{◌≡◌, ℕ, ◌+◌, ◌*◌, ◌<◌, ◌≤◌, ◌==◌, ◌⊎◌, List, ◌∷◌, ◌++◌, All, Option, Some, None, length, take, drop, map, filter, replicate, slice_index, slice_index_or}
use Rattle.std.specs.List.{filter_map}
use mathlib.Core.Option.{some}
use lib.ListN.{get_elem?}
use Rattle.onedom.specs.declared.event.Event.{Event}
use Rattle.onedom.specs.declared.event.Event.TheVariants.{Put}
use Rattle.onedom.specs.Histories.{slot_of, version_of, shelved, IsClear, IsBeginning}
use Rattle.sections.specs.declared.view.Bounds.{Bounds}
use Rattle.sections.specs.declared.view.Right.{Right}
use Rattle.sections.specs.declared.view.Right.TheVariants.{Nothing, Section, Shelf, Undealt}
use Rattle.sections.specs.declared.view.Step.{Step}
use Rattle.sections.specs.declared.view.Step.TheVariants.{LoadWord}
use Rattle.sections.specs.declared.view.Deed.{Deed}
use Rattle.sections.specs.declared.view.Offer.{Offer}
use Rattle.sections.specs.declared.view.Text.{Text}
use Rattle.sections.specs.declared.view.View.{View}
use Rattle.sections.specs.Words.{cell_place, word_place, word_count}

-- Texts

abbrev pub put_cell : Event → Option ℕ
put_cell (Put c x v by) = Some c
put_cell e = None

-- the cells of all Puts, in their order
abbrev pub put_cells : List Event → List ℕ
put_cells history = filter_map put_cell history

-- the words of the versions of a cell, from version 1 on
abbrev pub texts_of : ℕ → List Text → List (List ℕ)
texts_of c texts = map (λ t. t.words) (filter (λ t. t.cell == c) texts)

abbrev pub blank_words : List ℕ
blank_words = replicate 16 0

-- the words of a version of a cell: zeros for version 0
abbrev pub words_of : ℕ → ℕ → List Text → List ℕ
words_of c v texts = slice_index_or (blank_words ∷ texts_of c texts) v blank_words

abbrev pub word_of : ℕ → ℕ → ℕ → List Text → ℕ
word_of c v i texts = slice_index_or (words_of c v texts) i 0

-- the words of a slot, among those of all slots of its cell
abbrev pub slot_words : ℕ → List ℕ → List ℕ
slot_words x own = take 16 (drop (16 * x) own)

-- the offers of these versions
abbrev pub offers_of : ℕ → List Text → List Offer
offers_of c texts = map (λ t. t.offer) (filter (λ t. t.cell == c) texts)

abbrev pub no_offer : Offer
no_offer = record { keys = 0; vault = None; laid = 0; round = 0; each = 0 }

-- what a version of a cell offers: version 0 nothing
abbrev pub offer_of : ℕ → ℕ → List Text → Offer
offer_of c v texts = slice_index_or (no_offer ∷ offers_of c texts) v no_offer

-- the texts that were there when the history was so far
abbrev pub texts_at : List Text → List Event → List Text
texts_at texts history = take (length (put_cells history)) texts

-- the texts go on from what was known
pub record IsStart (known texts : List Text) : Type 0 where
  pub rest : List Text
  pub whole : texts ≡ known ++ rest

-- one text for each Put, in their order
abbrev pub AreTextsOf : List Text → List Event → Type 0
AreTextsOf texts history = map (λ t. t.cell) texts ≡ put_cells history

-- the words of this version of the cell are among them
abbrev pub IsKnown : ℕ → ℕ → List Text → Type 0
IsKnown c v texts = v ≤ length (texts_of c texts)

-- Slots

-- nobody can read the slot, or its words are those of the version that was put there last
abbrev pub Lies : Bounds → List ℕ → List Event → List Text → ℕ → ℕ → Type 0
Lies bounds words log texts c x = IsClear log c x ⊎ ((i : ℕ) → i < 16 → slice_index words (word_place bounds.processors c x i) ≡ word_of c (shelved c x log) i texts)

pub record AreShelved (bounds : Bounds) (words : List ℕ) (log : List Event) (texts : List Text) : Type 0 where
  pub cells : AreTextsOf texts log
  pub low : (c : ℕ) → slot_of c log < 8
  pub current : (c : ℕ) → c < bounds.cells → slice_index words (cell_place bounds.processors c) ≡ 16 * version_of c log + slot_of c log
  pub slots : (c x : ℕ) → c < bounds.cells → x < 8 → Lies bounds words log texts c x

-- the right to a cell is at one seat alone, which knows all of its Puts and the words of its slots
pub record HasShelf (bounds : Bounds) (words : List ℕ) (log : List Event) (writer_of : ℕ → ℕ) (seat c : ℕ) (own : List ℕ) (seen : List Event) : Type 0 where
  pub writer : writer_of c ≡ seat
  pub cell : c < bounds.cells
  pub upto : IsBeginning seen log
  pub all : version_of c log ≡ version_of c seen
  pub long : length own ≡ 128
  pub stored : (x i : ℕ) → x < 8 → i < 16 → slice_index words (word_place bounds.processors c x i) ≡ slice_index own (16 * x + i)

-- nothing was put into the cell yet
pub record IsNew (bounds : Bounds) (words : List ℕ) (log : List Event) (writer_of : ℕ → ℕ) (seat c : ℕ) : Type 0 where
  pub writer : writer_of c ≡ seat
  pub unput : version_of c log ≡ 0
  pub zeros : (x i : ℕ) → c < bounds.cells → x < 8 → i < 16 → slice_index words (word_place bounds.processors c x i) ≡ 0

abbrev pub Writes : Bounds → List ℕ → List Event → (ℕ → ℕ) → ℕ → Right → Type 0
Writes bounds words log writer_of seat Nothing = Unit {0}
Writes bounds words log writer_of seat (Section s p i us hand) = Unit {0}
Writes bounds words log writer_of seat (Shelf c own seen q) = HasShelf bounds words log writer_of seat c own seen
Writes bounds words log writer_of seat (Undealt k) = (c : ℕ) → k ≤ c → IsNew bounds words log writer_of seat c

-- what a seat knows has the texts of the Puts that it has seen, and so has what it was told
pub record FitsShelf (bounds : Bounds) (words : List ℕ) (log : List Event) (texts : List Text) (writer_of : ℕ → ℕ) (seat : ℕ) (v : View) : Type 0 where
  pub has : v.texts ≡ texts_at texts v.seen
  pub told : All (λ m. m.texts ≡ texts_at texts m.history) v.told
  pub writes : Writes bounds words log writer_of seat v.right

-- a word that was loaded is that of its version
abbrev pub IsTrueWord : List Event → List Text → Step → Type 0
IsTrueWord log texts (LoadWord c v i n) = (v ≤ version_of c log) × (n ≡ word_of c v i texts)
IsTrueWord log texts l = Unit {0}

pub record KeepsShelf (bounds : Bounds) (words : List ℕ) (views : List View) (log : List Event) (deeds : List Deed) : Type 0 where
  pub texts : List Text
  pub writer_of : ℕ → ℕ
  pub room : length words ≡ word_count bounds.processors bounds.cells
  pub shelved : AreShelved bounds words log texts
  pub each : (j : ℕ) (v : View) → get_elem? views j ≡ some v → FitsShelf bounds words log texts writer_of j v
  pub loaded : All (λ d. IsTrueWord log texts d.step) deeds

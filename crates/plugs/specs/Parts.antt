-- The steps of changing and of reading rows.
use Rattle.std.specs.Prelude.{ℕ, ◌/◌, ◌%◌, ◌+◌, ◌^◌, ◌≡◌, ◌<◌, ◌≤◌, Option, List, length, map, take, drop, slice_index, slice_index_or}
use Rattle.plugs.specs.declared.rows.Row.{Row}
use Rattle.plugs.specs.Tables.{plug_of, AreRead}

-- the rows before this place have smaller keys, and the one there has not
pub record IsFirstFrom (place key : ℕ) (rows : List Row) : Type 0 where
  pub inside : place ≤ length rows
  pub below : (i : ℕ) (d : Row) → i < place → (slice_index_or rows i d).key < key
  pub found : (d : Row) → place < length rows → key ≤ (slice_index_or rows place d).key

-- the rows before this place have smaller keys, and those from there on larger ones
pub record IsBetween (place key : ℕ) (rows : List Row) : Type 0 where
  pub inside : place ≤ length rows
  pub below : (i : ℕ) (d : Row) → i < place → (slice_index_or rows i d).key < key
  pub above : (i : ℕ) (d : Row) → place ≤ i → i < length rows → key < (slice_index_or rows i d).key

-- the row that a word is
abbrev pub row_at : ℕ → Row
row_at word = record { key = word / 2 ^ 32; plug = word % 2 ^ 32 }

-- the rows that the words behind the first one are, of which there are as many as that says
abbrev pub rows_in : List ℕ → List Row
rows_in words = map row_at (take (slice_index words 0) (drop 1 words))

-- at most fifteen rows, each with a larger key than the one before it, and zeros behind the last of them
pub record IsText (words : List ℕ) : Type 0 where
  pub few : slice_index_or words 0 0 ≤ 15
  pub rising : (i : ℕ) → 1 ≤ i → i < slice_index_or words 0 0 → slice_index_or words i 0 / 2 ^ 32 < slice_index_or words (i + 1) 0 / 2 ^ 32
  pub zeros : (i : ℕ) → slice_index_or words 0 0 < i → i < 16 → slice_index_or words i 0 ≡ 0

-- the plug is that of the key in the rows as which the words are read
pub record ReadsPlug (words : List ℕ) (key : ℕ) (plug : Option ℕ) : Type 0 where
  pub rows : List Row
  pub read : AreRead words rows
  pub plug_is : plug ≡ plug_of rows key

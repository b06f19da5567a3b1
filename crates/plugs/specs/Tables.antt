-- A table of plug-ins, and how it lies in the sixteen words of a version.
use Rattle.std.specs.Prelude.{◌≡◌, ◌≢◌, ℕ, ◌+◌, ◌-◌, ◌*◌, ◌^◌, ◌<◌, ◌≤◌, ◌==◌, if◌then◌else◌, Option, Some, None, List, [], ◌∷◌, ◌++◌, All, length, map, replicate}
use Rattle.std.specs.List.{AllPairs}
use Rattle.plugs.specs.declared.rows.Row.{Row}

-- The map

-- the plug of a key, where a row has the key
abbrev pub plug_of : List Row → ℕ → Option ℕ
plug_of [] key = None
plug_of (r ∷ rs) key = if r.key == key then Some r.plug else plug_of rs key

-- by rising key, so that no two rows have one key
abbrev pub Rises : List Row → Type 0
Rises rows = AllPairs (λ a b. a.key < b.key) rows

-- the key and the plug have 32 bits
abbrev pub IsNarrow : Row → Type 0
IsNarrow r = (r.key < 2 ^ 32) × (r.plug < 2 ^ 32)

pub record IsTable (rows : List Row) : Type 0 where
  pub few : length rows ≤ 15
  pub rising : Rises rows
  pub narrow : All IsNarrow rows

-- there are fifteen rows, and none of them has the key
pub record IsFull (key : ℕ) (rows : List Row) : Type 0 where
  pub count : length rows ≡ 15
  pub absent : plug_of rows key ≡ None

-- the key has this plug then, and each other key has the plug that it had
pub record Maps (key plug : ℕ) (rows rows' : List Row) : Type 0 where
  pub table : IsTable rows'
  pub here : plug_of rows' key ≡ Some plug
  pub others : (k : ℕ) → k ≢ key → plug_of rows' k ≡ plug_of rows k

-- the key has no plug then, and each other key has the plug that it had
pub record Unmaps (key : ℕ) (rows rows' : List Row) : Type 0 where
  pub table : IsTable rows'
  pub here : plug_of rows' key ≡ None
  pub others : (k : ℕ) → k ≢ key → plug_of rows' k ≡ plug_of rows k

-- Its text

-- a row is one word: the key, and below it 32 bits for the plug
abbrev pub row_word : Row → ℕ
row_word r = r.key * 2 ^ 32 + r.plug

-- the number of rows, then the rows, and zeros behind the last of them
abbrev pub text_of : List Row → List ℕ
text_of rows = length rows ∷ (map row_word rows ++ replicate (15 - length rows) 0)

-- words that are the text of a table are read as that table, and words that are no such text as a table without rows
pub record AreRead (words : List ℕ) (rows : List Row) : Type 0 where
  pub table : IsTable rows
  pub whole : (r : List Row) → IsTable r → words ≡ text_of r → rows ≡ r
  pub none : ((r : List Row) → IsTable r → words ≢ text_of r) → rows ≡ []

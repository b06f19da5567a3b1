-- The rule of a lock with one word in use and one slot. Seven words stand before the word and seven behind it, so that a line of 64 bytes holds no other lock's word.
use Rattle.std.specs.Prelude.{◌≡◌, ℕ, ◌∷◌, [], Option, Some, slice_index, length}
use mathlib.Core.Option.{some}
use lib.ListN.{get_elem?}
use Rattle.atomic_table.specs.Table.{State, Me}

abbrev pub lock_place : ℕ
lock_place = 7

abbrev pub word_count : ℕ
word_count = 15

module _ {T V : Type 0} where
  -- where the word is 0, the value is at home and fits
  abbrev pub Guarded : (T → Type 0) → State (Option T) V → Type 0
  Guarded fits s = (length s.words ≡ word_count) × (slice_index s.words lock_place ≡ 0 → (value : T) × (get_elem? s.homes 0 ≡ some (some (Some value))) × fits value)

  -- the seat has the slot, with a value in it that fits
  abbrev pub Seized : (T → Type 0) → Me (Option T) V → Type 0
  Seized fits m = (value : T) × (m.1 ≡ (0, Some value) ∷ []) × fits value

  -- the seat has the slot
  abbrev pub HasOnly : Me (Option T) V → Type 0
  HasOnly m = (held : Option T) × (m.1 ≡ (0, held) ∷ [])

-- The rule of a place with one word and one slot, through which a value goes once.
use Rattle.std.specs.Prelude.{◌≡◌, ℕ, ◌∷◌, [], Option, Some, None, slice_index, length}
use mathlib.Core.Option.{some}
use lib.ListN.{get_elem?}
use Rattle.atomic_table.specs.Table.{State, Me}

module _ {T V : Type 0} where
  -- where the word is 0, a value lies there that fits; where it is 2, the slot is there
  abbrev pub Passed : (T → Type 0) → State (Option T) V → Type 0
  Passed fits s = (length s.words ≡ 1) × (slice_index s.words 0 ≡ 0 → (value : T) × (get_elem? s.homes 0 ≡ some (some (Some value))) × fits value)
      × (slice_index s.words 0 ≡ 2 → (held : Option T) × (get_elem? s.homes 0 ≡ some (some held)))

  -- the seat has the slot, with a value in it that fits
  abbrev pub HasValue : (T → Type 0) → Me (Option T) V → Type 0
  HasValue fits m = (value : T) × (m.1 ≡ (0, Some value) ∷ []) × fits value

  -- the seat has the slot
  abbrev pub HasSlot : Me (Option T) V → Type 0
  HasSlot m = (held : Option T) × (m.1 ≡ (0, held) ∷ [])

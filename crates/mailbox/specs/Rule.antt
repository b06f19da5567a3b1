-- The rule of a place with one word and one slot, where threads leave a value for one another.
use Rattle.std.specs.Prelude.{◌≡◌, ◌≢◌, ℕ, ◌≤◌, [], ◌∷◌, Option, Some, None, IfSome, slice_index, length}
use Rattle.std.specs.Mem.Slots.{slots_items, slots_len, IsFull}
use mathlib.Core.Option.{some}
use lib.ListN.{get_elem?}
use Rattle.atomic_table.specs.Table.{State, Me}
use Rattle.atomic_table.specs.Seated.{TableId}
use Rattle.atomic_table.specs.declared.owned.Closed.{Closed}
use Rattle.atomic_table.specs.declared.shared.Seat.{Seat}
use Rattle.mailbox.specs.declared.mailbox.View.{View}

-- what the word says
abbrev pub there : ℕ
there = 0

abbrev pub busy : ℕ
busy = 1

abbrev pub empty : ℕ
empty = 2

abbrev pub shut : ℕ
shut = 3

module _ {K : Type 0} where
  abbrev pub newcomer : K → View K
  newcomer key = record { key = key; pins = 0 }

module _ {T K : Type 0} where
  -- where the word is 0, a value lies there that fits; where it is 2 or more, nothing does; and at most one seat is at the slot, or has closed the place
  pub record Kept (fits : T → Type 0) (s : State (Option T) (View K)) : Type 0 where
    pub wide : length s.words ≡ 1
    pub alone : (i j : ℕ) (v w : View K) → get_elem? s.views i ≡ some v → get_elem? s.views j ≡ some w → v.pins ≢ 0 → w.pins ≢ 0 → i ≡ j
    pub pinned : (id : ℕ) (v : View K) → get_elem? s.views id ≡ some v → v.pins ≢ 0 → (slice_index s.words 0 ≡ v.pins) × (v.pins ≢ empty)
    pub lies : slice_index s.words 0 ≡ there → (value : T) × (get_elem? s.homes 0 ≡ some (some (Some value))) × fits value
    pub bare : empty ≤ slice_index s.words 0 → get_elem? s.homes 0 ≡ some (some None)

  -- one who comes has nothing
  abbrev pub Enters : Me (Option T) (View K) → Me (Option T) (View K) → Type 0
  Enters m n = (n.0.key ≡ m.0.key) × (n.0.pins ≡ 0)

  -- what lies there, as the word said
  abbrev pub Fits : (T → K → Type 0) → K → ℕ → Option T → Type 0
  Fits fits key word None = word ≡ empty
  Fits fits key word (Some value) = (word ≡ there) × fits value key

  -- the seat has the slot
  pub record Has (fits : T → K → Type 0) (key : K) (word : ℕ) (n : Me (Option T) (View K)) : Type 0 where
    pub found : Option T
    pub slot : n.1 ≡ (0, found) ∷ []
    pub pins : n.0.pins ≡ busy
    pub is : Fits fits key word found

  -- where the word was the one that was asked for, the seat has the slot
  abbrev pub Claims : (T → K → Type 0) → ℕ → Me (Option T) (View K) → ℕ → Me (Option T) (View K) → Type 0
  Claims fits from m r n = r ≡ from → Has fits m.0.key from n

  -- a seat that closed the place says so
  abbrev pub Lays : ℕ → Me (Option T) (View K) → Me (Option T) (View K) → Type 0
  Lays word m n = word ≡ shut → n.0.pins ≡ shut

  pub record IsAt (fits : T → K → Type 0) (place : TableId) (key : K) (word : ℕ) (seat : Seat (Option T) (View K)) : Type 0 where
    pub table : seat.table_id ≡ place
    pub has : Has fits key word seat.me

  -- the seat has closed the place, and this lay there
  pub record IsLast (fits : T → K → Type 0) (place : TableId) (key : K) (value : Option T) (seat : Seat (Option T) (View K)) : Type 0 where
    pub table : seat.table_id ≡ place
    pub pins : seat.me.0.pins ≡ shut
    pub fit : IfSome value (λ x. fits x key)

-- nothing lies in the one slot
pub record LiesShut {T A : Type 0} (closed : Closed (Option T) A) : Type 0 where
  pub full : IsFull closed.slots
  pub one : slots_len closed.slots ≡ 1
  pub none : get_elem? (slots_items closed.slots) 0 ≡ some None

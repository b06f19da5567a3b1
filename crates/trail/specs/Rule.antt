-- The rule of a lock with a trail, with one word in use and one slot. The word stands 128 bytes from either end of its table's words, so that locks which lie side by side share no line.
use Rattle.std.specs.Prelude.{◌≡◌, ◌≢◌, ℕ, List, [], ◌∷◌, Option, Some, None, Bool, true, false, MatchOption, slice_index, length}
use mathlib.Core.Option.{some}
use lib.ListN.{get_elem?}
use Rattle.atomic_table.specs.Table.{State, Me}
use Rattle.trail.specs.declared.view.View.{View}
use Rattle.trail.specs.Calls.{IsEarlier, Follows}

abbrev pub lock_place : ℕ
lock_place = 16

abbrev pub word_count : ℕ
word_count = 32

module _ {K E : Type 0} where
  -- whoever comes to the lock has seen nothing
  abbrev pub newcomer : K → View K E
  newcomer key = record { key = Some key; has = false; seen = []; told = [] }

  abbrev pub spent : View K E
  spent = record { key = None; has = false; seen = []; told = [] }

  -- one seat was told what another had seen
  abbrev pub informed : View K E → View K E → View K E
  informed v w = record { key = v.key; has = v.has; seen = v.seen; told = w.seen }

module _ {T K : Type 0} where
  -- the value fits this key, where there is one
  abbrev pub Fits : (K → T → Type 0) → Option K → T → Type 0
  Fits fits key value = MatchOption key (Unit {0}) (λ k. fits k value)

module _ {T K E : Type 0} where
  -- there is one trail. Each seat has seen an earlier one, and the one that has the value, if there is any, has seen it all. Where the word is 0, the value is at home, in the newest state; where it isn't, a seat has the value
  pub record Kept (fits : T → Type 0) (state : T → E) (goes : E → E → Type 0) (s : State (Option T) (View K E)) : Type 0 where
    pub wide : length s.words ≡ word_count
    pub newest : E
    pub before : List E
    pub row : Follows goes newest before
    pub earlier : (id : ℕ) (v : View K E) → get_elem? s.views id ≡ some v → IsEarlier v.seen (newest ∷ before) × IsEarlier v.told (newest ∷ before)
    pub held : (id : ℕ) (v : View K E) → get_elem? s.views id ≡ some v → v.has ≡ true → (v.seen ≡ newest ∷ before) × (slice_index s.words lock_place ≢ 0)
    pub one : (i j : ℕ) (v w : View K E) → get_elem? s.views i ≡ some v → get_elem? s.views j ≡ some w → v.has ≡ true → w.has ≡ true → i ≡ j
    pub home : slice_index s.words lock_place ≡ 0 → (value : T) × (get_elem? s.homes 0 ≡ some (some (Some value))) × fits value × (newest ≡ state value)
    pub shut : slice_index s.words lock_place ≢ 0 → (id : ℕ) × (v : View K E) × (get_elem? s.views id ≡ some v) × (v.has ≡ true)

  -- the seat has the slot, with a value in it that fits, and has seen in which state it was left
  pub record Seized (fits : K → T → Type 0) (state : T → E) (key : Option K) (m : Me (Option T) (View K E)) : Type 0 where
    pub value : T
    pub slot : m.1 ≡ (0, Some value) ∷ []
    pub fit : Fits fits key value
    pub has : m.0.has ≡ true
    pub before : List E
    pub seen : m.0.seen ≡ state value ∷ before

  -- a swap that found 0 took the value
  abbrev pub seizes_as : (K → T → Type 0) → (T → E) → Me (Option T) (View K E) → ℕ → Me (Option T) (View K E) → Type 0
  seizes_as fits state m r n = r ≡ 0 → Seized fits state m.0.key n

  -- the value that the seat took last lies there again, and the trail is one state longer
  pub record Releases (state : T → E) (value : T) (m n : Me (Option T) (View K E)) : Type 0 where
    pub slot : n.1 ≡ []
    pub has : n.0.has ≡ false
    pub seen : n.0.seen ≡ state value ∷ m.0.seen

  abbrev pub releases_as : (T → E) → Me (Option T) (View K E) → Me (Option T) (View K E) → Type 0
  releases_as state m n = (value : T) → m.1 ≡ (0, Some value) ∷ [] → Releases state value m n

  -- the seat has seen the whole trail, which goes on from what it had seen and from what it was told
  pub record Looks (goes : E → E → Type 0) (m n : Me (Option T) (View K E)) : Type 0 where
    pub slot : n.1 ≡ m.1
    pub has : n.0.has ≡ m.0.has
    pub newest : E
    pub before : List E
    pub seen : n.0.seen ≡ newest ∷ before
    pub row : Follows goes newest before
    pub covers : IsEarlier m.0.seen n.0.seen
    pub hears : IsEarlier m.0.told n.0.seen

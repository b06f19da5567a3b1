-- The rule of a vault, and what each step tells.
use Rattle.std.specs.Prelude.{◌≡◌, ℕ, suc, ◌+◌, ◌<◌, ◌≤◌, [], ◌∷◌, length, Option, Some, None}
use mathlib.Core.Option.{some}
use lib.ListN.{get_elem?}
use Rattle.atomic_table.specs.Table.{State, Me, Step}
use Rattle.vault.specs.declared.pile.Pile.{Pile}
use Rattle.vault.specs.declared.key.Tally.{Tally}

-- what a key knows between two calls
abbrev pub key_of : ℕ → ℕ → ℕ → Tally
key_of place count round = record { key = suc place; out = 0; count = count; round = round }

-- what deals the keys of so many places. Its count is how many it has dealt
abbrev pub dealer : ℕ → Tally
dealer places = record { key = 0; out = 1; count = 0; round = places }

abbrev pub next_key : Tally → Tally
next_key v = key_of v.count 0 0

abbrev pub one_less : Tally → Tally
one_less v = record v { count = v.count + 1 }

module _ {X : Type 0} where
  -- so many parts of this round
  abbrev pub Lies : Option (Pile X) → ℕ → ℕ → Type 0
  Lies None count round = count ≡ 0
  Lies (Some p) count round = (p.part.count ≡ count) × (p.part.round ≡ round)

  abbrev pub count_of : Option (Pile X) → ℕ
  count_of None = 0
  count_of (Some p) = p.part.count

  -- their round, or this one where there are none
  abbrev pub round_of : Option (Pile X) → ℕ → ℕ
  round_of None round = round
  round_of (Some p) round = p.part.round

-- What a seat knows is true. `content` is what was last left in each place, `out` is 1 where it is open, `holder` the seat that has its key
pub record Fits {X : Type 0} (content : ℕ → Option (Pile X)) (out holder : ℕ → ℕ) (places seat : ℕ) (v : Tally) : Type 0 where
  pub alone : (k : ℕ) → v.key ≡ suc k → holder k ≡ seat
  pub inside : (k : ℕ) → v.key ≡ suc k → k < places
  pub out_is : (k : ℕ) → v.key ≡ suc k → out k ≡ v.out
  pub lies : (k : ℕ) → v.key ≡ suc k → Lies (content k) v.count v.round
  -- who deals has the keys that are still to be dealt
  pub deals : v.key ≡ 0 → v.out ≡ 1 → (v.round ≡ places) × ((k : ℕ) → v.count ≤ k → (holder k ≡ seat) × (out k ≡ 0) × (content k ≡ None))

-- what lies in each place that is not open, and that all seats know the truth
pub record Vaulted {X : Type 0} (s : State (Option (Pile X)) Tally) : Type 0 where
  pub content : ℕ → Option (Pile X)
  pub out : ℕ → ℕ
  pub holder : ℕ → ℕ
  pub home : (k : ℕ) → k < length s.homes → out k ≡ 0 → get_elem? s.homes k ≡ some (some (content k))
  pub each : (j : ℕ) (v : Tally) → get_elem? s.views j ≡ some v → Fits content out holder (length s.homes) j v

module _ {X : Type 0} where
  -- the place is open, with what the key knew of it
  abbrev pub opened : Step (Option (Pile X)) → Me (Option (Pile X)) Tally → ℕ → Me (Option (Pile X)) Tally → Type 0
  opened st m e m' = (k : ℕ) → m.0.key ≡ suc k → (c : Option (Pile X)) × Lies c m.0.count m.0.round × (m'.0 ≡ record m.0 { out = 1 }) × (m'.1 ≡ (k, c) ∷ m.1)

  -- what the seat had in hand lies in the place, and the key knows how much it is
  abbrev pub shut : Step (Option (Pile X)) → Me (Option (Pile X)) Tally → ℕ → Me (Option (Pile X)) Tally → Type 0
  shut st m e m' = (k : ℕ) (c : Option (Pile X)) → m.0.key ≡ suc k → m.1 ≡ (k, c) ∷ []
      → (m'.0 ≡ record m.0 { out = 0; count = count_of c; round = round_of c m.0.round }) × (m'.1 ≡ [])

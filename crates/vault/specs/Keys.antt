-- Which place a key is of, and what it knows of it.
use Rattle.std.specs.Prelude.{◌≡◌, ℕ, suc, List, [], ◌∷◌}
use Rattle.atomic_table.specs.Seated.{TableId}
use Rattle.atomic_table.specs.declared.badge.Badge.{Badge}
use Rattle.vault.specs.declared.key.Tally.{Tally}
use Rattle.vault.specs.Rule.{key_of}

-- the key of this place of this vault, where so many parts of this round lie
abbrev pub IsKey : TableId → ℕ → ℕ → ℕ → Badge Tally → Type 0
IsKey vault place count round key = (key.table_id ≡ vault) × (key.views ≡ key_of place count round ∷ [])

-- the keys of the places from this one on, where nothing lies
abbrev pub AreKeys : TableId → ℕ → List (Badge Tally) → Type 0
AreKeys vault place [] = Unit {0}
AreKeys vault place (key ∷ keys) = IsKey vault place 0 0 key × AreKeys vault (suc place) keys

-- The swaps on a desk, one after the other. In the beginning nothing lies there.
use Rattle.std.specs.Prelude.{◌≡◌, ℕ, ◌==◌, List, [], ◌∷◌, filter, Option, None}
-- what was seen is a beginning of the swaps
pub use Rattle.annals.specs.Logs.{IsBeginning}

-- the number of the seat that made it, what lies on the desk from then on, and what lay there before
pub record Swap (T : Type 0) : Type 0 where
  pub by : ℕ
  pub left : Option T
  pub found : Option T

-- what the seat of this number has seen
pub record Account (T : Type 0) : Type 0 where
  pub by : ℕ
  pub seen : List (Swap T)

module _ {T : Type 0} where
  -- what lies there in the end, if this lay there before
  abbrev pub lies_after : Option T → List (Swap T) → Option T
  lies_after before [] = before
  lies_after before (s ∷ later) = lies_after s.left later

  -- what lies there behind these swaps
  abbrev pub lies_behind : List (Swap T) → Option T
  lies_behind swaps = lies_after None swaps

  -- the first swap found what lay there before, and each other one what the swap before it had left
  abbrev pub AreInTurnAfter : Option T → List (Swap T) → Type 0
  AreInTurnAfter before [] = Unit {0}
  AreInTurnAfter before (s ∷ later) = (s.found ≡ before) × AreInTurnAfter s.left later

  abbrev pub AreInTurn : List (Swap T) → Type 0
  AreInTurn swaps = AreInTurnAfter None swaps

  -- those that the seat of this number made
  abbrev pub swaps_of : ℕ → List (Swap T) → List (Swap T)
  swaps_of number swaps = filter (λ s. s.by == number) swaps

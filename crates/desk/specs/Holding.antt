-- The swaps on a bay, one after the other. In the beginning a value lies there. The seat that takes it holds until it puts one back.
use Rattle.std.specs.Prelude.{◌≡◌, ℕ, ◌<◌, Bool, false, ◌&&◌, List, [], ◌∷◌, ◌++◌, Option, is_some, is_none}
use Rattle.desk.specs.Swaps.{Swap, lies_after, swaps_of}

module _ {T : Type 0} where
  -- the swap took something
  abbrev pub takes : Swap T → Bool
  takes s = is_none s.left && is_some s.found

  -- whether a seat that made just these swaps holds behind them: its last one took something
  abbrev pub holds_after : Bool → List (Swap T) → Bool
  holds_after held [] = held
  holds_after held (s ∷ later) = holds_after (takes s) later

  -- whether the seat of this number holds behind these swaps
  abbrev pub holds_behind : ℕ → List (Swap T) → Bool
  holds_behind number swaps = holds_after false (swaps_of number swaps)

  -- a seat of the bay finds what lies there. If it holds it puts something back, and else it takes
  pub record MayFollow (seats : ℕ) (first : Option T) (before : List (Swap T)) (s : Swap T) : Type 0 where
    pub by : s.by < seats
    pub finds : s.found ≡ lies_after first before
    pub in_turn : is_some s.left ≡ holds_behind s.by before

  abbrev pub IsLegalAfter : ℕ → Option T → List (Swap T) → List (Swap T) → Type 0
  IsLegalAfter seats first before [] = Unit {0}
  IsLegalAfter seats first before (s ∷ later) = MayFollow seats first before s × IsLegalAfter seats first (before ++ s ∷ []) later

  -- each of them may follow those before it
  abbrev pub IsLegal : ℕ → Option T → List (Swap T) → Type 0
  IsLegal seats first swaps = IsLegalAfter seats first [] swaps

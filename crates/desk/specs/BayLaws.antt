-- What holds of the swaps of every bay.
use Rattle.std.specs.Prelude.{◌≡◌, ◌≢◌, ℕ, ◌<◌, true, false, List, [], ◌∷◌, ◌++◌, All, Option, Some, None}
use Rattle.desk.specs.Swaps.{Swap, lies_after, swaps_of, IsBeginning}
use Rattle.desk.specs.Holding.{holds_behind, IsLegal}
use Rattle.desk.specs.BayViews.{BaySeatView}
use Rattle.desk.specs.BayCalls.{lies, MakesSwap}

-- nothing lies there, and just this seat holds
pub record JustOneHolds {T : Type 0} (seats : ℕ) (swaps : List (Swap T)) : Type 0 where
  pub holder : ℕ
  pub there : holder < seats
  pub holding : holds_behind holder swaps ≡ true
  pub alone : (n : ℕ) → holds_behind n swaps ≡ true → n ≡ holder

-- no seat holds
abbrev pub NobodyHolds : {T : Type 0} → List (Swap T) → Type 0
NobodyHolds swaps = (n : ℕ) → holds_behind n swaps ≡ false

-- where something lies nobody holds, and where nothing does just one seat holds
abbrev pub HasOneHolder : {T : Type 0} → ℕ → List (Swap T) → Option T → Type 0
HasOneHolder seats swaps (Some x) = NobodyHolds swaps
HasOneHolder seats swaps None = JustOneHolds seats swaps

-- something lay there first, and the swaps since are legal
abbrev pub OneHolds : Type 0 → Type 0
OneHolds T = (seats : ℕ) (first : T) (swaps : List (Swap T)) → IsLegal seats (Some first) swaps → HasOneHolder seats swaps (lies_after (Some first) swaps)

-- in all, each of the seats has just its swaps of these
abbrev pub HasJust : {T : Type 0} → ℕ → List (Swap T) → List (Swap T) → Type 0
HasJust seats all swaps = All (λ s. s.by < seats) all × ((n : ℕ) → n < seats → swaps_of n all ≡ swaps_of n swaps)

-- if all seats have just what was there before and an act, nothing came before the act, and nothing behind it
abbrev pub GrowsByOne : Type 0 → Type 0
GrowsByOne T = (seats : ℕ) (start before act all : List (Swap T)) → IsBeginning start before → IsBeginning (before ++ act) all → HasJust seats all (start ++ act) → (before ≡ start) × (all ≡ start ++ act)

-- and if they have just two acts, nothing came between these
abbrev pub GrowsByTwo : Type 0 → Type 0
GrowsByTwo T = (seats : ℕ) (start before act between last all : List (Swap T)) → IsBeginning start before → IsBeginning (before ++ act) between → IsBeginning (between ++ last) all → HasJust seats all (start ++ (act ++ last))
    → (before ≡ start) × (between ≡ start ++ act) × (all ≡ start ++ (act ++ last))

-- from v to w the seat swapped, and what all have then seen has of the other seats just what v had seen of them. So it is when all seats had met at v, and meet again at w
pub record SwapsAlone {T : Type 0} (v w : BaySeatView T) (all : List (Swap T)) : Type 0 where
  pub since : IsBeginning w.seen all
  pub makers : All (λ s. s.by < v.seats) all
  pub own : swaps_of v.number all ≡ swaps_of v.number w.seen
  pub others : (n : ℕ) → n < v.seats → n ≢ v.number → swaps_of n all ≡ swaps_of n v.seen

-- a swap that a seat makes alone finds what lay there behind what it had seen, and the list is then the old one and that swap
abbrev pub OneSwap : Type 0 → Type 0
OneSwap T = (v w : BaySeatView T) (left found : Option T) (all : List (Swap T)) → MakesSwap v left found w → SwapsAlone v w all
    → (found ≡ lies v) × (all ≡ v.seen ++ record { by = v.number; left = left; found = found } ∷ [])

-- the same of a take and a put
abbrev pub OneTurn : Type 0 → Type 0
OneTurn T = (v w u : BaySeatView T) (found : Option T) (left : T) (all : List (Swap T)) → MakesSwap v None found w → MakesSwap w (Some left) None u → SwapsAlone v u all
    → (found ≡ lies v) × (all ≡ v.seen ++ (record { by = v.number; left = None; found = found } ∷ record { by = v.number; left = Some left; found = None } ∷ []))

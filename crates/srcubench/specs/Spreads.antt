-- How far samples lie apart.
use Rattle.std.specs.Prelude.{◌≡◌, ℕ, ◌-◌, ◌/◌, List, Some, length, slice_get}
use Rattle.std.specs.List.Sorted.{IsPermutation, IsNonDecreasing}
use Rattle.srcubench.specs.declared.spread.Spread.{Spread}

-- what stands in the middle, first and last once the samples are in order; of an even number of samples the upper one of the middle two
pub record IsSpreadOf (samples : List ℕ) (s : Spread) : Type 0 where
  pub sorted : List ℕ
  pub same : IsPermutation samples sorted
  pub order : IsNonDecreasing sorted
  pub median : slice_get sorted (length sorted / 2) ≡ Some s.median
  pub least : slice_get sorted 0 ≡ Some s.least
  pub most : slice_get sorted (length sorted - 1) ≡ Some s.most

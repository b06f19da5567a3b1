-- What a caller knows of a bay and of its seats.
use Rattle.std.specs.Prelude.{ℕ, List, Option}
use Rattle.atomic_table.specs.Seated.{TableId}
use Rattle.desk.specs.Swaps.{Swap}

-- which bay it is, the domain of all that lies there, how many seats it has, and what lay there first
pub record BayView (T : Type 0) : Type 0 where
  pub bay : TableId
  pub domain : TableId
  pub seats : ℕ
  pub first : T

-- `number` is that of the seat, from 0 on. `first` is what lay in the bay first. `seen` are the swaps on the bay, as far as the seat has seen them
pub record BaySeatView (T : Type 0) : Type 0 where
  pub bay : TableId
  pub domain : TableId
  pub seats : ℕ
  pub number : ℕ
  pub first : Option T
  pub seen : List (Swap T)

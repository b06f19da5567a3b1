-- What a caller knows of a desk and of its seats.
use Rattle.std.specs.Prelude.{ℕ, List}
use Rattle.atomic_table.specs.Seated.{TableId}
use Rattle.desk.specs.Swaps.{Swap}

-- which desk it is, the domain of all that lies there, and how many seats it has
pub record DeskView : Type 0 where
  pub desk : TableId
  pub domain : TableId
  pub seats : ℕ

-- `number` is that of the seat, from 0 on. `seen` are the swaps on the desk, as far as the seat has seen them: up to its own last one
pub record SeatView (T : Type 0) : Type 0 where
  pub desk : TableId
  pub domain : TableId
  pub seats : ℕ
  pub number : ℕ
  pub seen : List (Swap T)

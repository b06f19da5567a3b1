-- What a caller knows of a lock with a trail, and of what was seen of it.
use Rattle.std.specs.Prelude.{ℕ, List}
use Rattle.atomic_table.specs.Seated.{TableId}

-- which lock it is, and the key that its value fits
pub record TrailView (K : Type 0) : Type 0 where
  pub lock : TableId
  pub key : K

-- the states in which the value of this lock had been left by a moment, the newest first
pub record SightView (E : Type 0) : Type 0 where
  pub lock : TableId
  pub seen : List E

-- which stock it is, the key that each value of it fits, and how many were put in
pub record StockView (K : Type 0) : Type 0 where
  pub lock : TableId
  pub key : K
  pub count : ℕ

-- What a caller knows of a lock.
use Rattle.atomic_table.specs.Seated.{TableId}

-- which lock it is, and the key of the value that it guards
pub record KeepView (K : Type 0) : Type 0 where
  pub lock : TableId
  pub key : K

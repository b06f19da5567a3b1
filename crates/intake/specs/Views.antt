-- What a caller knows of the ends of a line.
use Rattle.std.specs.Prelude.{List, Option}
use Rattle.atomic_table.specs.Seated.{TableId}
use Rattle.crossbeam_queue.specs.SegTies.{SegId}

-- which line it is (its queue, and the allocator of its blocks), its key, and all that was ever pushed
pub record InletView (T K A : Type 0) : Type 0 where
  pub line : SegId A
  pub key : Option K
  pub pushed : List T

-- the same, with all that was ever taken out
pub record OutletView (T K A : Type 0) : Type 0 where
  pub line : SegId A
  pub key : Option K
  pub taken : List T

-- which place the second end goes through, and the key that it fits
pub record HandoverView (K : Type 0) : Type 0 where
  pub place : TableId
  pub key : K

-- of a line whose queue is made at the first push: the place through which the pusher hands the second end over, the key, and all that was ever pushed
pub record LazyInletView (T K : Type 0) : Type 0 where
  pub place : TableId
  pub key : Option K
  pub pushed : List T

-- the same, with all that was ever taken out
pub record LazyOutletView (T K : Type 0) : Type 0 where
  pub place : TableId
  pub key : Option K
  pub taken : List T

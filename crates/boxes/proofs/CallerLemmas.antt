-- What a crate above may cite of this one; the other files of proofs/ are its own.

-- the writers of a new domain are of it, and none is of a cell of boxes yet
pub use Rattle.boxes.proofs.Founding.{writers_at_home}
-- the version of a box is shown on each processor
pub use Rattle.boxes.proofs.Shown.{shown_once_put}
-- where no box is left, no slot has one; and one that is left is that of one slot
pub use Rattle.boxes.proofs.Left.{none_left, only_one}

-- What a crate above may cite of this one; the other files of proofs/ are its own.

-- Beginnings of what was done

-- a list of deeds is a beginning of itself, the empty one is a beginning of each, and a beginning of a beginning is one
pub use Rattle.calls.proofs.Counting.{begins_itself, begins_empty}
pub use Rattle.calls.proofs.Loading.{begins_on}
-- no count falls
pub use Rattle.calls.proofs.Loading.{queued_later, finished_later}
-- Whose deeds

-- a processor's deeds in two lists, one behind the other
pub use Rattle.calls.proofs.Counting.{deeds_append}
-- what a list is behind a job that was queued there, behind a batch that was taken, and behind one that was finished
pub use Rattle.calls.proofs.Lining.{called_here, taken_here, finish_here}
-- the last one of those that are moved is moved behind the others
pub use Rattle.calls.proofs.Lining.{all_moved_last}
-- where no more was queued meanwhile, all that came in were moved
pub use Rattle.calls.proofs.Moving.{moved_all}
-- a processor whose deeds are the same in two lists has just these in all that lie between
pub use Rattle.calls.proofs.Counting.{own_between}
-- so one whose seat was covered, and then admitted to a later list, did nothing in between
pub use Rattle.calls.proofs.Totalling.{rested}
-- who finished batches is there in each beginning too
pub use Rattle.calls.proofs.Counting.{earlier_takers}
-- each beginning of true loads is true
pub use Rattle.calls.proofs.Counting.{true_beginning}
-- Totals

-- a processor's deeds tell how many calls it has queued
pub use Rattle.calls.proofs.Counting.{same_queued}
-- and a look queues none
pub use Rattle.calls.proofs.Gathering.{looked_queued}
-- where no other processor that is there did anything while a seat added the tally words up, its sums are those of what it has then seen. It is also a clause of `totals_of_callbacks`, which anyone may call
pub use Rattle.calls.proofs.Totalling.{totals_exact}

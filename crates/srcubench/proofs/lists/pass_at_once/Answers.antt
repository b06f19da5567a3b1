-- All got the number and were done.
use Rattle.srcubench.proofs.Passing.{all_assigned, all_advanced}
use Rattle.srcubench.proofs.lists.pass_at_once.Goals as goal

pub take_batches-requires-clause-done : goal.take_batches-requires-clause-done
take_batches-requires-clause-done c = all_advanced _ _ _ _ c.advance.ensures.entries (all_assigned _ _ _ _ c.assign.ensures.entries c.in_ok-push_all.ensures)

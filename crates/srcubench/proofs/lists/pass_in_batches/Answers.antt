-- A batch came in each round.
use Rattle.srcubench.proofs.Passing.{all_advanced}
use Rattle.srcubench.proofs.lists.pass_in_batches.Goals as goal

pub take_batches-taken-requires-clause-done : goal.take_batches-taken-requires-clause-done
take_batches-taken-requires-clause-done c = all_advanced _ _ _ _ c.advance.ensures.entries c.in_ok-push_batch.ensures

-- So far one was added in each round.
use Rattle.std.proofs.Common.{◌≡◌, ◌+◌}
use Rattle.std.specs.VecDeque.{deque_len}
use Rattle.srcubench.proofs.lists.queue_up.Given as goal

abbrev pub invariant-loop-entry : goal.invariant-loop-entry
invariant-loop-entry l = deque_len l.queue ≡ deque_len l.initial.queue + l.entry

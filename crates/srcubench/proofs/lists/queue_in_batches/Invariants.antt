-- So far eight came in each round, and none is left.
use Rattle.std.proofs.Common.{◌≡◌, ◌*◌}
use Rattle.std.specs.VecDeque.{deque_len}
use Rattle.srcubench.proofs.lists.queue_in_batches.Given as goal

abbrev pub invariant-loop : goal.invariant-loop
invariant-loop l = record {
  came : l.popped ≡ 8 * l.counter;
  empty : deque_len l.queue ≡ 0;
}

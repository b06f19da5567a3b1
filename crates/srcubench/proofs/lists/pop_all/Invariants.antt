-- So far one came in each round.
use Rattle.std.proofs.Common.{◌≡◌, ◌+◌}
use Rattle.std.specs.VecDeque.{deque_len}
use Rattle.srcubench.proofs.lists.pop_all.Given as goal

abbrev pub invariant-loop : goal.invariant-loop
invariant-loop l = record {
  came : l.popped ≡ l.counter;
  left : deque_len l.queue + l.counter ≡ l.initial.entries;
}

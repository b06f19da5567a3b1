use Rattle.std.proofs.Common.{◌≡◌, ◌+◌, ◌++◌, length}
use Rattle.std.specs.VecDeque.{deque_len, deque_capacity}
use Rattle.segs.proofs.seg_list.take_front.Given as goal

abbrev pub invariant-loop : goal.invariant-loop
invariant-loop g l = record {
  in_order : l.initial.entries.items ≡ l.taken.items ++ l.entries.items;
  many : length l.taken.items ≡ l.counter;
  left : deque_len l.entries + l.counter ≡ deque_len l.initial.entries;
  inline : l.taken.capacity ≡ 8;
  capacity : deque_capacity l.entries ≡ deque_capacity l.initial.entries;
}

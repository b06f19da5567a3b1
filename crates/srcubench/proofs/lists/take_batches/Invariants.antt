-- So far eight came in each round, and the others are done too.
use Rattle.std.proofs.Common.{◌≡◌, ◌*◌, ◌-◌}
use Rattle.segs.specs.MarkedList.{Done}
use Rattle.srcubench.specs.Lists.{AreMarked}
use Rattle.srcubench.proofs.lists.take_batches.Given as goal

abbrev pub invariant-loop : goal.invariant-loop
invariant-loop l = record {
  came : l.taken ≡ 8 * l.counter;
  left : AreMarked Done (8 * l.initial.batches - 8 * l.counter) l.list.entries;
}

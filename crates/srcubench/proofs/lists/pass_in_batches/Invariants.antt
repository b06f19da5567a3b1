-- So far eight came in each round, and none is left.
use Rattle.std.proofs.Common.{◌≡◌, ◌*◌, []}
use Rattle.srcubench.proofs.lists.pass_in_batches.Given as goal

abbrev pub invariant-loop-number : goal.invariant-loop-number
invariant-loop-number l = record {
  came : l.taken ≡ 8 * l.number;
  empty : l.list.entries ≡ [];
}

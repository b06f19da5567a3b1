-- No block that was looked at has the id.
use Rattle.std.proofs.Common.{map, take}
use Rattle.notify.specs.Blocks.{HasNone, block_at}
use Rattle.notify.proofs.order.has_none.Given as goal

abbrev pub invariant-loop-word : goal.invariant-loop-word
invariant-loop-word l = HasNone l.id (take l.word-index (map block_at l.used))

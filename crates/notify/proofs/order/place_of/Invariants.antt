-- No block that was looked at has the id.
use Rattle.std.proofs.Common.{take}
use Rattle.notify.specs.Blocks.{HasNone}
use Rattle.notify.proofs.order.place_of.Given as goal

abbrev pub invariant-loop-place : goal.invariant-loop-place
invariant-loop-place l = HasNone l.id (take l.place l.blocks)

-- Each block that was looked at may precede one of the priority.
use Rattle.std.proofs.Common.{All, take}
use Rattle.notify.specs.Blocks.{MayPrecede}
use Rattle.notify.proofs.order.count_before.Given as goal

abbrev pub invariant-loop-place : goal.invariant-loop-place
invariant-loop-place l = All (λ b. MayPrecede b.priority l.block.priority) (take l.place l.blocks)

-- The blocks that were looked at are those of a chain, and each left its mark.
use Rattle.std.proofs.Common.{All, map, take}
use Rattle.notify.specs.Blocks.{IsChain, IsMarked, block_at}
use Rattle.notify.proofs.order.is_chain.Given as goal

abbrev pub invariant-loop-place : goal.invariant-loop-place
invariant-loop-place l = record {
  chain : IsChain l.ids (take l.place (map block_at l.used));
  marked : All (λ b. IsMarked l.marks b.id) (take l.place (map block_at l.used));
}

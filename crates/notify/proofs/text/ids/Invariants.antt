-- The ids before this place are there.
use Rattle.std.proofs.Common.{◌≡◌, map, take}
use Rattle.notify.specs.Blocks.{padded, block_at}
use Rattle.notify.proofs.text.ids.Given as goal

abbrev pub invariant-loop-place : goal.invariant-loop-place
invariant-loop-place l = l.ids ≡ padded 15 (map (λ b. b.id) (take l.place (map block_at l.used)))

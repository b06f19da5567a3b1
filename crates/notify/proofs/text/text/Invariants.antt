-- The words of the blocks before this place are there.
use Rattle.std.proofs.Common.{◌≡◌, ◌∷◌, length, map, take}
use Rattle.notify.specs.Blocks.{padded, word_of}
use Rattle.notify.proofs.text.text.Given as goal

abbrev pub invariant-loop-place : goal.invariant-loop-place
invariant-loop-place l = l.words ≡ padded 16 (length l.blocks ∷ map word_of (take l.place l.blocks))

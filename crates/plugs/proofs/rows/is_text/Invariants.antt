-- Up to this place keys rise, and then words are zeros.
use Rattle.std.proofs.Common.{ℕ, ◌+◌, ◌/◌, ◌^◌, ◌<◌, ◌≤◌, ◌≡◌, get_or}
use Rattle.plugs.proofs.rows.is_text.Given as goal

abbrev pub invariant-loop-place : goal.invariant-loop-place
invariant-loop-place l = (i : ℕ) → 1 ≤ i → i < l.place → get_or l.words i 0 / 2 ^ 32 < get_or l.words (i + 1) 0 / 2 ^ 32

abbrev pub invariant-loop-place-2 : goal.invariant-loop-place-2
invariant-loop-place-2 l = (i : ℕ) → l.count < i → i < l.place → get_or l.words i 0 ≡ 0

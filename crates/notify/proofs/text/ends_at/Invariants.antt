-- The words that were looked at are zeros.
use Rattle.std.proofs.Common.{ℕ, ◌<◌, ◌≡◌, get_or}
use Rattle.notify.proofs.text.ends_at.Given as goal

abbrev pub invariant-loop-place : goal.invariant-loop-place
invariant-loop-place l = (i : ℕ) → l.count < i → i < l.place → get_or l.words i 0 ≡ 0

use Rattle.std.proofs.Common.{◌≡◌, ◌++◌, length, map}
use Rattle.draw.proofs.bar.bars.Given as goal

abbrev pub invariant-loop-left : goal.invariant-loop-left
invariant-loop-left l = map (λ b. b.span) l.all.items ++ l.left ≡ l.fn.spans

abbrev pub decreases-loop-left : goal.decreases-loop-left
decreases-loop-left l = length l.left

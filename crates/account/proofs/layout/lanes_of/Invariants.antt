use Rattle.std.proofs.Common.{◌≡◌, length}
use Rattle.account.proofs.layout.lanes_of.Given as goal

abbrev pub invariant-loop-span : goal.invariant-loop-span
invariant-loop-span l = length l.all.items ≡ l.span-index

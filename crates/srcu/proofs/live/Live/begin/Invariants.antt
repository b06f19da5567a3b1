-- It is the same value.
use Rattle.std.proofs.Common.{◌≡◌}
use Rattle.srcu.proofs.live.Live.begin.Given as goal

abbrev pub invariant-loop : goal.invariant-loop
invariant-loop g l = l.self ≡ l.fn.self

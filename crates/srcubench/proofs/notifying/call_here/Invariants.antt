-- So far there are as many handlers as there were rounds.
use Rattle.std.proofs.Common.{◌≡◌, length}
use Rattle.srcubench.proofs.notifying.call_here.Given as goal

abbrev pub invariant-loop : goal.invariant-loop
invariant-loop l = length l.handlers.items ≡ l.counter

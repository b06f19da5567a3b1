-- So far there was no error.
use Rattle.std.proofs.Common.{IsOk, All, take}
use Rattle.srcubench.proofs.callbacks.first_error.Given as goal

abbrev pub invariant-loop-outcome : goal.invariant-loop-outcome
invariant-loop-outcome g l = All IsOk (take l.outcome-index l.outcomes)

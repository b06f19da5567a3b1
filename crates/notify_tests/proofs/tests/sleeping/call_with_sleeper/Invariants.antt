-- There is a handler for each result so far.
use Rattle.std.proofs.Common.{◌≡◌, length}
use Rattle.notify_tests.proofs.tests.sleeping.call_with_sleeper.Given as goal

abbrev pub invariant-loop-result : goal.invariant-loop-result
invariant-loop-result l = length l.handlers.items ≡ l.result-index

-- There is a handler for each id so far.
use Rattle.std.proofs.Common.{◌≡◌, length}
use Rattle.notify_tests.proofs.tests.called.log_of_call.Given as goal

abbrev pub invariant-loop-digit : goal.invariant-loop-digit
invariant-loop-digit l = length l.handlers.items ≡ l.digit

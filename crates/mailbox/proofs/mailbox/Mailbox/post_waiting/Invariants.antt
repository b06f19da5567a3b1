-- It is the value that was given still.
use Rattle.std.proofs.Common.{◌≡◌}
use Rattle.mailbox.proofs.mailbox.Mailbox.post_waiting.Given as goal

abbrev pub invariant-loop : goal.invariant-loop
invariant-loop g l = l.value ≡ l.fn.value

use Rattle.std.proofs.Common.{length}
use Rattle.session.specs.Entries.{AreClosed}
use Rattle.session.proofs.entry.cleanup.drop_tokens.Given as goal

abbrev pub invariant-loop-token : goal.invariant-loop-token
invariant-loop-token g l = AreClosed l.tokens.entries

abbrev pub decreases-loop-token : goal.decreases-loop-token
decreases-loop-token g l = length l.tokens.entries

use Rattle.std.proofs.Common.{length}
use Rattle.session.specs.Entries.{AreOf}
use Rattle.session.proofs.entry.end_all.Given as goal

abbrev pub invariant-loop-token : goal.invariant-loop-token
invariant-loop-token g l = AreOf l.domain l.tokens.entries

abbrev pub decreases-loop-token : goal.decreases-loop-token
decreases-loop-token g l = length l.tokens.entries

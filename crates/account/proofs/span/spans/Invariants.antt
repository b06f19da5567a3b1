use Rattle.std.proofs.Common.{length}
use Rattle.account.specs.Spans.{found_in}
use Rattle.account.proofs.Walks.{AreMet}
use Rattle.account.proofs.span.spans.Given as goal

abbrev pub invariant-loop-row : goal.invariant-loop-row
invariant-loop-row l = AreMet l.fn.rows l.left l.all.items (found_in l.ends)

abbrev pub decreases-loop-row : goal.decreases-loop-row
decreases-loop-row l = length l.left

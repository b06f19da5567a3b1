-- The desk's slot and those so far are empty.
use Rattle.desk.proofs.Emptying.{Emptied}
use Rattle.desk.proofs.desk.empty.Given as goal

abbrev pub invariant-loop-slot : goal.invariant-loop-slot
invariant-loop-slot g l = Emptied l.desk l.slot l.fn.closed l.closed

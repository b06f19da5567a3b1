-- So far as many entries wait for the number as there were rounds.
use Rattle.segs.specs.MarkedList.{At}
use Rattle.srcubench.specs.Lists.{AreMarked}
use Rattle.srcubench.proofs.lists.push_batch.Given as goal

abbrev pub invariant-loop-entry : goal.invariant-loop-entry
invariant-loop-entry l = AreMarked (At l.initial.number) l.entry l.list.entries

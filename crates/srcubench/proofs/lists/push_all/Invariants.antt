-- So far as many entries are there as there were rounds.
use Rattle.segs.specs.MarkedList.{Next}
use Rattle.srcubench.specs.Lists.{AreMarked}
use Rattle.srcubench.proofs.lists.push_all.Given as goal

abbrev pub invariant-loop-entry : goal.invariant-loop-entry
invariant-loop-entry l = AreMarked Next l.entry l.list.entries

-- So far batches were run at most.
use Rattle.race.specs.Updaters.{GoesOn}
use Rattle.race.proofs.updater.settle.Given as goal

abbrev pub invariant-loop : goal.invariant-loop
invariant-loop g l = GoesOn l.course 0 0 l.fn.updater l.updater

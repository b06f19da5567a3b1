-- So far the engine was driven at most.
use Rattle.race.specs.Updaters.{GoesOn}
use Rattle.race.proofs.updater.install.Given as goal

abbrev pub invariant-loop : goal.invariant-loop
invariant-loop g l = GoesOn l.course 0 0 l.fn.updater l.updater

-- The processor is of the domain, and so are its cells.
use Rattle.soak.specs.Updaters.{IsUpdating}
use Rattle.soak.proofs.boxing.take_back.Given as goal

abbrev pub invariant-loop-turn : goal.invariant-loop-turn
invariant-loop-turn g l = IsUpdating l.domain l.updater

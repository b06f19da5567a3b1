-- The processor is of the domain.
use Rattle.soak.specs.Updaters.{IsUpdating}
use Rattle.soak.proofs.updating.update.Given as goal

abbrev pub invariant-loop : goal.invariant-loop
invariant-loop g l = IsUpdating l.domain l.updater

-- The processor is of the domain.
use Rattle.soak.specs.Updaters.{IsUpdating}
use Rattle.soak.proofs.updating.age_all.Given as goal

abbrev pub invariant-loop-place : goal.invariant-loop-place
invariant-loop-place l = IsUpdating l.domain l.updater

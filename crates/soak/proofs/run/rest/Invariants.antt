-- The processor is of the domain.
use Rattle.domain.specs.Views.{IsOf}
use Rattle.soak.proofs.run.rest.Given as goal

abbrev pub invariant-loop : goal.invariant-loop
invariant-loop l = IsOf l.domain l.cpu

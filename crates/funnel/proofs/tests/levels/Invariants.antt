-- The seats stay processors'.
use Rattle.funnel.specs.Calls.{AreOfProcessors}
use Rattle.funnel.proofs.tests.levels.Given as goal

abbrev pub invariant-loop-processor : goal.invariant-loop-processor
invariant-loop-processor g l = AreOfProcessors l.seats.items

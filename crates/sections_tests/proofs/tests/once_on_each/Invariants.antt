-- The engine stays one of so many processors.
use Rattle.std.proofs.Common.{◌≡◌}
use Rattle.sections_tests.proofs.tests.once_on_each.Given as goal

abbrev pub invariant-loop-processor : goal.invariant-loop-processor
invariant-loop-processor l = l.engine.processors ≡ 256

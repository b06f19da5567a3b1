-- The team stays one of its domain.
use Rattle.std.proofs.Common.{◌≡◌}
use Rattle.srcu_tests.proofs.tests.edges.use_next.Given as goal

abbrev pub invariant-loop : goal.invariant-loop
invariant-loop g l = l.team.domain ≡ l.initial.team.domain

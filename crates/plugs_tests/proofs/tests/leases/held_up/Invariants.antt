-- The world stays one of the same domain.
use Rattle.std.proofs.Common.{◌≡◌}
use Rattle.plugs_tests.proofs.tests.leases.held_up.Given as goal

abbrev pub invariant-loop : goal.invariant-loop
invariant-loop l = l.world ≡ l.initial.world

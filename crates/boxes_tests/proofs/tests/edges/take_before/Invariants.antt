-- The processors are of the domain.
use Rattle.std.proofs.Common.{All}
use Rattle.domain.specs.Views.{IsOf}
use Rattle.boxes_tests.proofs.tests.edges.take_before.Given as goal

abbrev pub invariant-loop : goal.invariant-loop
invariant-loop l = All (IsOf l.domain) l.cpus.items

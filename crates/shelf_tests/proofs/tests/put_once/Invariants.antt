-- The processor and the shelf stay those of the domain.
use Rattle.std.proofs.Common.{◌≡◌}
use Rattle.domain.specs.Views.{IsOf}
use Rattle.shelf_tests.proofs.tests.put_once.Given as goal

abbrev pub invariant-loop : goal.invariant-loop
invariant-loop g l = record {
  cpu : IsOf l.domain l.cpu;
  shelf : l.shelf.domain ≡ l.domain.domain;
}

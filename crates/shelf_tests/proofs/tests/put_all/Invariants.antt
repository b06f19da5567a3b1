-- The processor and the shelf stay those of the domain.
use Rattle.std.proofs.Common.{◌≡◌}
use Rattle.domain.specs.Views.{IsOf}
use Rattle.shelf_tests.proofs.tests.put_all.Given as goal

abbrev pub invariant-loop-number : goal.invariant-loop-number
invariant-loop-number g l = record {
  cpu : IsOf l.domain l.cpu;
  shelf : l.shelf.domain ≡ l.domain.domain;
}

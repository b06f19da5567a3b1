-- The processor and the writer stay those of the domain.
use Rattle.std.proofs.Common.{◌≡◌}
use Rattle.domain.specs.Views.{IsOf}
use Rattle.domain_tests.proofs.tests.versions.put_one.Given as goal

abbrev pub invariant-loop : goal.invariant-loop
invariant-loop g l = record {
  cpu : IsOf l.domain l.cpu;
  writer : l.writer.domain ≡ l.domain.domain;
}

-- The processor and the writer stay those of the domain.
use Rattle.std.proofs.Common.{◌≡◌}
use Rattle.domain.specs.Views.{IsOf}
use Rattle.domain_tests.proofs.tests.versions.put_on.Given as goal

abbrev pub invariant-loop-version : goal.invariant-loop-version
invariant-loop-version g l = record {
  cpu : IsOf l.domain l.cpu;
  writer : l.writer.domain ≡ l.domain.domain;
}

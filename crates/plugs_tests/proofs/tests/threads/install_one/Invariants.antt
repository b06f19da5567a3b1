-- The processor and the table stay those of the domain.
use Rattle.std.proofs.Common.{◌≡◌}
use Rattle.domain.specs.Views.{IsOf}
use Rattle.plugs_tests.proofs.tests.threads.install_one.Given as goal

abbrev pub invariant-loop : goal.invariant-loop
invariant-loop g l = record {
  cpu : IsOf l.domain l.cpu;
  table : l.table.writer.domain ≡ l.domain.domain;
}

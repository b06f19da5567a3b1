-- So far the key was installed as often as there were rounds, in the same domain.
use Rattle.std.proofs.Common.{◌≡◌}
use Rattle.domain.specs.Views.{IsOf}
use Rattle.srcubench.specs.Tabling.{InstallsAll}
use Rattle.srcubench.proofs.installing.install_often.Given as goal

abbrev pub invariant-loop : goal.invariant-loop
invariant-loop l = record {
  installs : InstallsAll (λ n. 7) l.counter l.initial.table l.initial.cpu l.table l.cpu;
  here : IsOf l.domain l.cpu;
  table : l.table.writer.domain ≡ l.domain.domain;
}

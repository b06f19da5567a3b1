-- So far as many keys were installed as there were rounds, in the same domain.
use Rattle.std.proofs.Common.{◌≡◌}
use Rattle.domain.specs.Views.{IsOf}
use Rattle.srcubench.specs.Tabling.{InstallsAll}
use Rattle.srcubench.proofs.installing.install_all.Given as goal

abbrev pub invariant-loop-key : goal.invariant-loop-key
invariant-loop-key l = record {
  installs : InstallsAll (λ n. n) l.key l.initial.table l.initial.cpu l.table l.cpu;
  here : IsOf l.domain l.cpu;
  table : l.table.writer.domain ≡ l.domain.domain;
}

-- So far the key was looked up as often as there were rounds, in the same domain.
use Rattle.std.proofs.Common.{◌≡◌}
use Rattle.srcubench.specs.Tabling.{LooksOften}
use Rattle.srcubench.proofs.looking.look_often.Given as goal

abbrev pub invariant-loop : goal.invariant-loop
invariant-loop l = record {
  looks : LooksOften l.leased l.view.cell l.counter l.initial.cpu l.cpu;
  domain : l.cpu.cpu.domain ≡ l.initial.cpu.cpu.domain;
}

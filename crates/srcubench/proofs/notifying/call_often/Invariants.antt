-- So far as many calls were as there were rounds, in the same domain.
use Rattle.std.proofs.Common.{◌≡◌}
use Rattle.srcubench.specs.Chaining.{CallsOften}
use Rattle.srcubench.proofs.notifying.call_often.Given as goal

abbrev pub invariant-loop : goal.invariant-loop
invariant-loop g l = record {
  calls : CallsOften l.blocks l.view l.counter l.initial.cpu l.cpu;
  domain : l.cpu.cpu.domain ≡ l.initial.cpu.cpu.domain;
}

-- So far so many came out, of the processors before this one.
use Rattle.std.proofs.Common.{◌≡◌}
use Rattle.domain.specs.Views.{IsOf}
use Rattle.srcubench.specs.Giving.{GivesAll}
use Rattle.srcubench.proofs.giving.give_all.Given as goal

abbrev pub invariant-loop : goal.invariant-loop
invariant-loop g l = record {
  here : IsOf l.domain l.cpu;
  queuers : l.queuers ≡ l.initial.cpu.cpu.processor;
  gives : GivesAll l.domain l.came l.initial.cpu l.cpu;
}

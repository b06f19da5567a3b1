-- So far as many blocks were registered as there were rounds, in the same domain.
use Rattle.std.proofs.Common.{◌≡◌}
use Rattle.domain.specs.Views.{IsOf}
use Rattle.srcubench.specs.Chaining.{RegistersAll}
use Rattle.srcubench.proofs.registering.register_all.Given as goal

abbrev pub invariant-loop-id : goal.invariant-loop-id
invariant-loop-id l = record {
  registers : RegistersAll l.id l.initial.chain l.initial.cpu l.chain l.cpu;
  here : IsOf l.domain l.cpu;
  chain : l.chain.writer.domain ≡ l.domain.domain;
  ids : l.chain.ids ≡ l.initial.chain.ids;
}

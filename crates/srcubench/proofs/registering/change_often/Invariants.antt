-- So far the block went and came as often as there were rounds, in the same domain.
use Rattle.std.proofs.Common.{◌≡◌}
use Rattle.domain.specs.Views.{IsOf}
use Rattle.srcubench.specs.Chaining.{ChangesOften}
use Rattle.srcubench.proofs.registering.change_often.Given as goal

abbrev pub invariant-loop : goal.invariant-loop
invariant-loop l = record {
  changes : ChangesOften l.counter l.initial.chain l.initial.cpu l.chain l.cpu;
  here : IsOf l.domain l.cpu;
  chain : l.chain.writer.domain ≡ l.domain.domain;
  ids : l.chain.ids ≡ 4;
}

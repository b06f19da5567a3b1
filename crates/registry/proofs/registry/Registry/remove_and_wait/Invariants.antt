-- The processor may wait, and nothing was put since the removal.
use Rattle.std.proofs.Common.{◌≡◌}
use Rattle.onedom.specs.Histories.{IsBeginning}
use Rattle.sections.specs.Writers.{IsSameWriter}
use Rattle.domain.specs.Views.{IsOf, IsSameProcessor}
use Rattle.domain.specs.Waiting.{HasNoneOpen}
use Rattle.boxes.specs.Boxes.{cell_of}
use Rattle.registry.specs.Names.{names_of}
use Rattle.registry.proofs.registry.Registry.remove_and_wait.Given as goal

abbrev pub invariant-loop : goal.invariant-loop
invariant-loop g l = record {
  here : IsOf l.domain l.cpu;
  none : HasNoneOpen l.cpu;
  by : IsSameProcessor l.fn.cpu l.cpu;
  names : names_of l.self.here ≡ names_of l.initial.self.here;
  leaving : names_of l.self.leaving ≡ names_of l.initial.self.leaving;
  writer : IsSameWriter l.initial.self.writer.writer l.self.writer.writer;
  same : cell_of l.self.writer ≡ cell_of l.fn.self.writer;
  after : IsBeginning l.initial.cpu.cpu.seen l.cpu.cpu.seen;
}

-- No try has changed anything yet, and the processor may wait.
use Rattle.std.proofs.Common.{◌≡◌, ◌⊎◌}
use Rattle.domain.specs.Views.{IsOf}
use Rattle.domain.specs.Waiting.{HasNoneOpen}
use Rattle.boxes.specs.Boxes.{cell_of}
use Rattle.registry.specs.Names.{names_of}
use Rattle.registry.specs.Refusing.{IsTaken}
use Rattle.registry.specs.Waiting.{ChangesNothing}
use Rattle.registry.proofs.registry.Registry.remove_until.Given as goal

abbrev pub invariant-loop : goal.invariant-loop
invariant-loop g l = record {
  here : IsOf l.domain l.cpu;
  none : HasNoneOpen l.cpu;
  cell : cell_of l.self.writer ≡ cell_of l.initial.self.writer;
  vain : ChangesNothing l.initial.self l.initial.cpu l.self l.cpu;
  first : ((l.self ≡ l.initial.self) × (l.cpu ≡ l.initial.cpu)) ⊎ IsTaken g.K.Ord.cmp l.key (names_of l.initial.self.here);
}

-- As many versions came back, and their parts are home.
use Rattle.std.proofs.Common.{◌≡◌, ℕ, List, Box}
use Rattle.std.specs.List.{count_by}
use Rattle.std.specs.Option.{is_some}
use Rattle.domain.specs.Views.{Stays, with_cpu}
use Rattle.boxes.specs.Boxes.{IsCellOf, cell_of}
use Rattle.registry.specs.declared.index.Entry.{Entry}
use Rattle.registry.specs.Names.{all_kept}
use Rattle.registry.specs.Registry.{IsRegistry}
use Rattle.registry.specs.Changing.{ComeBack}
use Rattle.registry.proofs.publishing.collect.Given as goal

abbrev pub invariant-loop-version : goal.invariant-loop-version
invariant-loop-version g l = record {
  here : all_kept l.devices.here.items ≡ all_kept l.initial.devices.here.items;
  leaving : all_kept l.devices.leaving.items ≡ all_kept l.initial.devices.leaving.items;
  registry : (n : ℕ) → IsRegistry g.K.Ord.cmp l.initial.writer l.initial.devices.here.items l.initial.devices.leaving.items n → IsRegistry g.K.Ord.cmp l.writer l.devices.here.items l.devices.leaving.items n;
  same : cell_of l.writer ≡ cell_of l.initial.writer;
  cell : IsCellOf l.cpu.cpu (cell_of l.writer);
  comes : (back : List (Box (List (Entry _ _)) _)) × ComeBack back l.initial.writer l.initial.cpu.cpu l.writer l.cpu.cpu;
  rest : l.cpu ≡ with_cpu l.cpu.cpu l.initial.cpu;
  stays : Stays l.initial.cpu l.cpu;
}

abbrev pub decreases-loop-version : goal.decreases-loop-version
decreases-loop-version g l = count_by is_some l.writer.stored

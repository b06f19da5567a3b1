-- Nothing was put yet.
use Rattle.std.proofs.Common.{◌≡◌}
use Rattle.onedom.specs.Histories.{IsBeginning}
use Rattle.boxes.specs.Boxes.{cell_of}
use Rattle.srcu.specs.Updating.{PutsNothing, PutsNoVersion}
use Rattle.srcu.specs.Workers.{IsSameWorker}
use Rattle.srcu.proofs.worker.Worker.replace_box_wait.Given as goal

abbrev pub invariant-loop : goal.invariant-loop
invariant-loop g l = record {
  same : IsSameWorker l.initial.self l.self;
  cell : cell_of l.writer ≡ cell_of l.initial.writer;
  nothing : PutsNothing l.initial.writer l.writer;
  whole : l.whole ≡ l.initial.whole;
  only : PutsNoVersion l.initial.self.cpu l.self.cpu;
  since : IsBeginning l.initial.self.cpu.cpu.seen l.self.cpu.cpu.seen;
}

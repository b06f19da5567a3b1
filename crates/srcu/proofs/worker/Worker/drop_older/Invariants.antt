-- The current version stands so, and its box is where it was.
use Rattle.std.proofs.Common.{◌≡◌}
use Rattle.onedom.specs.Histories.{IsBeginning}
use Rattle.boxes.specs.Boxes.{cell_of, stored_at}
use Rattle.srcu.specs.Updating.{IsStanding, PutsNoVersion}
use Rattle.srcu.specs.Workers.{IsSameWorker}
use Rattle.srcu.proofs.worker.Worker.drop_older.Given as goal

abbrev pub invariant-loop : goal.invariant-loop
invariant-loop g l = record {
  same : IsSameWorker l.initial.self l.self;
  cell : cell_of l.writer ≡ cell_of l.initial.writer;
  current : l.writer.writer.current ≡ l.initial.writer.writer.current;
  there : stored_at l.writer l.initial.writer.writer.current ≡ stored_at l.initial.writer l.initial.writer.writer.current;
  stands : IsStanding l.writer.writer;
  version : l.writer.writer.version ≡ l.initial.writer.writer.version;
  puts : PutsNoVersion l.initial.self.cpu l.self.cpu;
  since : IsBeginning l.initial.self.cpu.cpu.seen l.self.cpu.cpu.seen;
}

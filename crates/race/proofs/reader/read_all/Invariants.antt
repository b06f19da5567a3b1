-- So many rounds were made, by the same processor.
use Rattle.std.proofs.Common.{◌≡◌}
use Rattle.race.specs.Readers.{HasMade, MakesRounds}
use Rattle.race.proofs.reader.read_all.Given as goal

abbrev pub invariant-loop-round : goal.invariant-loop-round
invariant-loop-round g l = record {
  made : HasMade l.course l.round l.reader;
  rounds : MakesRounds l.course l.round l.fn.reader l.reader;
  same : l.reader.cpu.cpu.processor ≡ l.fn.reader.cpu.cpu.processor;
}

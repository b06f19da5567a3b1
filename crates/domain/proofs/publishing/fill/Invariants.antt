-- The words before this place are stored, and the slot was clear at the last of these stores.
use Rattle.std.proofs.Common.{◌≡◌, ◌<◌}
use Rattle.onedom.specs.Histories.{IsBeginning, IsClear}
use Rattle.sections.specs.Writers.{IsSameWriter}
use Rattle.domain.proofs.Filling.{FilledTo}
use Rattle.domain.proofs.publishing.fill.Given as goal

abbrev pub invariant-loop-place : goal.invariant-loop-place
invariant-loop-place g l = record {
  words : FilledTo l.place l.slot.slot l.fn.words l.initial.writer.words l.writer.words;
  same : IsSameWriter l.initial.writer l.writer;
  standings : l.writer.standings ≡ l.initial.writer.standings;
  since : IsBeginning l.initial.writer.seen l.writer.seen;
  clear : 0 < l.place → IsClear l.writer.seen l.initial.writer.cell l.initial.slot.slot;
  cpu : l.cpu ≡ l.initial.cpu;
  slot : l.slot ≡ l.initial.slot;
}

-- Those of the slots before this one are counted.
use Rattle.std.proofs.Common.{◌≡◌, ◌+◌, ◌≤◌, ◌<◌, length, drop}
use Rattle.boxes.specs.Boxes.{left_in}
use Rattle.boxes.proofs.writer.BoxWriter.left.Given as goal

abbrev pub invariant-loop-slot : goal.invariant-loop-slot
invariant-loop-slot g l = record {
  counted : l.left + left_in (drop l.slot l.self.stored) ≡ left_in l.self.stored;
  low : l.left ≤ l.slot;
  eight : 0 < l.slot → length l.self.stored ≡ 8;
}

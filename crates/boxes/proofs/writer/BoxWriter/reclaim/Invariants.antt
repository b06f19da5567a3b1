-- No slot before this one has a box that can come back.
use Rattle.std.proofs.Common.{◌≡◌, ℕ, ◌^◌, ◌<◌, ◌≤◌, ◌⊎◌}
use Rattle.boxes.specs.Writing.{IsNotBack}
use Rattle.boxes.proofs.writer.BoxWriter.reclaim.Given as goal

abbrev pub invariant-loop-slot : goal.invariant-loop-slot
invariant-loop-slot g l = record {
  same : l.self ≡ l.initial.self;
  none : (2 ^ 54 ≤ l.initial.self.writer.version) ⊎ ((x : ℕ) → x < l.slot → IsNotBack l.initial.self x);
}

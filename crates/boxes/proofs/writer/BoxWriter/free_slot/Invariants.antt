-- No slot before this one is free.
use Rattle.std.proofs.Common.{◌≡◌, ℕ, ◌^◌, ◌<◌, ◌≤◌, ◌⊎◌}
use Rattle.boxes.specs.Laying.{IsNotFree}
use Rattle.boxes.proofs.writer.BoxWriter.free_slot.Given as goal

abbrev pub invariant-loop-slot : goal.invariant-loop-slot
invariant-loop-slot g l = record {
  same : l.self ≡ l.initial.self;
  none : (2 ^ 54 ≤ l.initial.self.writer.version) ⊎ ((x : ℕ) → x < l.slot → IsNotFree l.initial.self x);
}

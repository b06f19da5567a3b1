-- The devices behind those whose entries are left have their parts again.
use Rattle.std.proofs.Common.{◌≡◌, ℕ, ◌+◌, ◌<◌, ◌≤◌, length, slice_index_or}
use Rattle.std.specs.Vec.{vec_capacity}
use Rattle.registry.specs.declared.index.Entry.{Entry}
use Rattle.registry.specs.declared.device.Device.{Device}
use Rattle.registry.specs.Names.{all_kept}
use Rattle.registry.proofs.devices.Devices.take_back.Given as goal

abbrev pub invariant-loop-entry : goal.invariant-loop-entry
invariant-loop-entry g l = record {
  leaving : l.self.leaving ≡ l.initial.self.leaving;
  capacity : vec_capacity l.self.here ≡ vec_capacity l.initial.self.here;
  kept : all_kept l.self.here.items ≡ all_kept l.initial.self.here.items;
  long : length l.self.here.items ≡ length l.initial.self.here.items;
  few : length l.entries.items ≤ length l.initial.self.here.items;
  parts : (k : ℕ) (e : Entry _ _) (d : Device _ _ _) → k < length l.entries.items → (slice_index_or l.entries.items k e).part.round ≡ (slice_index_or l.initial.self.here.items k d).deed.deed.round;
  rest : (k : ℕ) (d : Device _ _ _) → k < length l.entries.items → slice_index_or l.self.here.items k d ≡ slice_index_or l.initial.self.here.items k d;
  back : (k : ℕ) (d : Device _ _ _) → length l.entries.items ≤ k → k < length l.initial.self.here.items → (slice_index_or l.initial.self.here.items k d).out ≡ (slice_index_or l.self.here.items k d).out + 1;
}

abbrev pub decreases-loop-entry : goal.decreases-loop-entry
decreases-loop-entry g l = length l.entries.items

-- One part of each device before this one was lent.
use Rattle.std.proofs.Common.{◌≡◌, ℕ, ◌+◌, ◌<◌, ◌≤◌, length, slice_index_or}
use Rattle.std.specs.Vec.{vec_capacity}
use Rattle.registry.specs.declared.index.Entry.{Entry}
use Rattle.registry.specs.declared.device.Device.{Device}
use Rattle.registry.specs.Names.{IsPartOf, all_kept}
use Rattle.registry.proofs.devices.Devices.lend_all.Given as goal

abbrev pub invariant-loop-place : goal.invariant-loop-place
invariant-loop-place g l = record {
  leaving : l.self.leaving ≡ l.initial.self.leaving;
  capacity : vec_capacity l.self.here ≡ vec_capacity l.initial.self.here;
  kept : all_kept l.self.here.items ≡ all_kept l.initial.self.here.items;
  long : length l.self.here.items ≡ length l.initial.self.here.items;
  count : l.count ≡ length l.initial.self.here.items;
  lent : (k : ℕ) (d : Device _ _ _) → k < l.place → (slice_index_or l.self.here.items k d).out ≡ (slice_index_or l.initial.self.here.items k d).out + 1;
  rest : (k : ℕ) (d : Device _ _ _) → l.place ≤ k → slice_index_or l.self.here.items k d ≡ slice_index_or l.initial.self.here.items k d;
  many : length l.entries.items ≡ l.place;
  room : l.count ≤ vec_capacity l.entries;
  parts : (k : ℕ) (e : Entry _ _) (d : Device _ _ _) → k < l.place → IsPartOf (slice_index_or l.entries.items k e) (slice_index_or l.initial.self.here.items k d);
}

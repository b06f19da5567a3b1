-- It was none of the devices before this one.
use Rattle.std.proofs.Common.{◌≡◌}
use Rattle.std.specs.List.{AllWithin}
use Rattle.registry.specs.declared.device.Device.{Device}
use Rattle.registry.proofs.devices.Devices.take_one_left.Given as goal

abbrev pub invariant-loop-place : goal.invariant-loop-place
invariant-loop-place g l = record {
  same : l.self ≡ l.fn.self;
  entry : l.entry ≡ l.fn.entry;
  others : AllWithin (λ (d : Device _ _ _). d.number ≡ l.fn.entry.number → ⊥) l.fn.self.leaving.items 0 l.place;
}

-- No device before this one is at home.
use Rattle.std.proofs.Common.{◌≡◌, ◌<◌}
use Rattle.std.specs.List.{AllWithin}
use Rattle.registry.specs.declared.device.Device.{Device}
use Rattle.registry.proofs.devices.Devices.take_whole.Given as goal

abbrev pub invariant-loop-place : goal.invariant-loop-place
invariant-loop-place g l = record {
  same : l.self ≡ l.initial.self;
  out : AllWithin (λ (d : Device _ _ _). 0 < d.out) l.initial.self.leaving.items 0 l.place;
}

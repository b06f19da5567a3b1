-- The last one stays where parts of it are out.
use Rattle.std.proofs.Common.{◌<◌, rules}
use Rattle.registry.specs.declared.device.Device.{Device}
use Rattle.registry.proofs.Keeping.{last_pushed}
use Rattle.registry.proofs.devices.Devices.take_last.Goals as goal

pub returns-then-device-gt0-clause-takes : goal.returns-then-device-gt0-clause-takes
returns-then-device-gt0-clause-takes g c =
    (search rules, last_pushed (λ (d : Device _ _ _). 0 < d.out) c.pop.new.self.items c.args.self.now.leaving.items c.in_ok-device.device c.in_ok-device.ensures.items c.if-device-gt0.true)

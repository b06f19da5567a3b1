-- The device that was found was shown.
use Rattle.std.proofs.Common.{refl}
use Rattle.registry.proofs.index.Index.show.Goals as goal

pub returns : goal.returns
returns g c = (c.device_at.result.now, (c.in_ok-place.place, c.in_ok-place.ensures, c.device_at.ensures), (c.device_at.result, c.show.ensures, refl))

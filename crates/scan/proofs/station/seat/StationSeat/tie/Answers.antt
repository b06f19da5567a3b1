use Rattle.std.proofs.Common.{refl}
use Rattle.scan.proofs.Driving.{drives}
use Rattle.scan.proofs.station.seat.StationSeat.tie.Goals as goal

pub returns-clause-ties : goal.returns-clause-ties
returns-clause-ties g c = drives _ _ _ _ _ _ _ _ c.requires.cpu c.in-Some.ensures.takes refl c.give_back.ensures.back

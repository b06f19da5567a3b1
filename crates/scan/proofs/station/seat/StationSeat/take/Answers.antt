use Rattle.scan.proofs.Driving.{takes}
use Rattle.scan.proofs.station.seat.StationSeat.take.Goals as goal

pub returns-clause-takes : goal.returns-clause-takes
returns-clause-takes g c = rw (← c.self.view_is) (takes _ _ _ c.take.ensures.swap c.take.ensures.holds c.take.ensures.elsewhere c.take.ensures.domain c.take.ensures.alike)

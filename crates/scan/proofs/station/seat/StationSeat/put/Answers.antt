use Rattle.scan.proofs.Driving.{may_lie}
use Rattle.scan.proofs.station.seat.StationSeat.put.Goals as goal

pub put-requires-clause-alike : goal.put-requires-clause-alike
put-requires-clause-alike g c = may_lie c.self.inside.seat c.args.engine (rw (← c.self.view_is) at c.requires.size) c.requires.tied

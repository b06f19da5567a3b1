use Rattle.std.proofs.lemmas.Result.{err_from_is_err_and}
use Rattle.scan.proofs.Driving.{drives, not_started}
use Rattle.scan.proofs.station.seat.StationSeat.start.Goals as goal

pub returns-clause-starts : goal.returns-clause-starts
returns-clause-starts g c = drives _ _ _ _ _ _ _ _ c.requires.cpu c.in-Some.ensures.takes c.in_ok-answer.ensures c.give_back.ensures.back

pub returns-in_err-answer-clause-starts : goal.returns-in_err-answer-clause-starts
returns-in_err-answer-clause-starts g c = let p = err_from_is_err_and c.from_residual.result c.from_residual.ensures.1 in rw (p.1, p.2) (not_started _ _ _ _ _ (drives _ _ _ _ _ _ _ _ c.requires.cpu c.in-Some.ensures.takes c.in_err-answer.ensures c.give_back.ensures.back))

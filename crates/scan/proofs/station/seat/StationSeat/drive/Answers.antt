use Rattle.std.proofs.Common.{sym, ◌∙◌}
use Rattle.std.proofs.lemmas.Result.{err_from_is_err_and}
use Rattle.scan.proofs.Driving.{of_station, drives_there, may_stay}
use Rattle.scan.proofs.Limits.{paced_within}
use Rattle.scan.proofs.station.seat.StationSeat.drive.Goals as goal

pub work-requires-clause-may : goal.work-requires-clause-may
work-requires-clause-may g c = let here = rw (← c.self.view_is) at c.requires.cpu in λ x h. here ∙ sym h.0

pub work-requires-clause-keeps : goal.work-requires-clause-keeps
work-requires-clause-keeps g c = λ x r y l m h w. may_stay _ c.self.inside.seat _ _ _ _ _ _ _ _ h w

pub returns-clause-drives : goal.returns-clause-drives
returns-clause-drives g c =
    let w = c.in-Some.ensures.works in
    let here = rw (← c.self.view_is) at c.requires.cpu in
    rw (← c.self.view_is) (drives_there _ _ _ _ _ _ w w.works.worked here (rw c.in_ok-answer.was at w.works.works) w.works.ties w.works.rest)

pub returns-in_err-answer-clause-drives : goal.returns-in_err-answer-clause-drives
returns-in_err-answer-clause-drives g c =
    let w = c.in-Some.ensures.works in
    let here = rw (← c.self.view_is) at c.requires.cpu in
    let p = err_from_is_err_and c.from_residual.result c.from_residual.ensures.1 in
    rw (p.1, p.2, ← c.self.view_is) (drives_there _ _ _ _ _ _ w w.works.worked here (rw c.in_err-answer.was at w.works.works) w.works.ties w.works.rest)

pub returns-clause-within : goal.returns-clause-within
returns-clause-within g c =
    let w = c.in-Some.ensures.works in
    rw (← c.self.view_is) (paced_within c.self.inside.seat w.found w.works.worked _ _ _ _ (of_station _ w.found w.may.1) w.works.most _ (rw c.in_ok-answer.was at w.works.works))

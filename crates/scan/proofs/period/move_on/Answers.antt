use Rattle.std.proofs.Common.{sym, subst}
use Rattle.scan.specs.declared.place.Place.TheVariants as places
use Rattle.scan.specs.declared.progress.Progress.TheVariants as answers
use Rattle.scan.specs.Glossary.{IsAt, MovesUntil}
use Rattle.scan.proofs.Flips.{second_scan_moves, started_moves}
use Rattle.scan.proofs.RowsOfSteps.{stops_at_once}
use Rattle.scan.proofs.period.move_on.Goals as goal

pub returns-in-Wanted : goal.returns-in-Wanted
returns-in-Wanted g c =
    let is = c.in-Wanted.is in
    let here = subst (λ p. IsAt c.args.seat.now p) is c.requires.place.1 in
    subst (λ p. MovesUntil c.args.once c.args.seat.now p c.add_start.new.self (places.Unlocks 0 0) (answers.Started c.add_start.result)) (sym is)
    (stops_at_once _ _ _ _ _ _ c.requires.history here (started_moves _ _ _ _ c.requires.history c.requires.some here c.add_start.ensures.event c.add_start.ensures.number) (λ _ h. cc))

pub returns-in-Flipped : goal.returns-in-Flipped
returns-in-Flipped g c =
    let is = c.in-Flipped.is in
    let here = subst (λ p. IsAt c.args.seat.now p) is c.requires.place.1 in
    subst (λ p. MovesUntil c.args.once c.args.seat.now p c.add_scan2.new.self (places.Unlocks 0 0) (answers.Flipped c.in-Flipped.index)) (sym is)
    (stops_at_once _ _ _ _ _ _ c.requires.history here (second_scan_moves _ _ c.in-Flipped.index c.requires.history c.requires.some here c.add_scan2.ensures.step) (λ _ h. cc))

use Rattle.std.proofs.Common.{arith}
use Rattle.scan.proofs.Flips.{flipped_moves, second_scan_moves, ended_moves, in_second_scan, in_other_scan}
use Rattle.scan.proofs.RowsOfSteps.{stays, one_more, stops, stops_at_once}
use Rattle.scan.proofs.period.leave_scan.Goals as goal

pub returns-in-Scan2 : goal.returns-in-Scan2
returns-in-Scan2 g c = stops_at_once _ _ _ _ _ _ c.requires.history c.requires.place
    (ended_moves _ _ _ c.requires.history c.requires.some c.requires.place (in_second_scan _ c.number.result c.requires.place.scanning c.number.ensures.value c.in-Scan2.ensures) c.add_end.ensures.event c.add_end.ensures.number) (λ _ h. cc)

pub returns-then-once : goal.returns-then-once
returns-then-once g c =
    let first = flipped_moves _ _ _ c.requires.history c.requires.some c.requires.place (in_other_scan _ c.number.result c.state.result c.requires.place.scanning c.number.ensures.value c.state.ensures c.in_default.not-Scan2) c.flip-index.ensures.step c.flip-index.ensures.index in
    let on = c.if-once.true in
    stops_at_once _ _ _ _ _ _ c.requires.history c.requires.place first (λ off. absurd cc)

pub returns-else-once : goal.returns-else-once
returns-else-once g c =
    let first = flipped_moves _ _ _ c.requires.history c.requires.some c.requires.place (in_other_scan _ c.number.result c.state.result c.requires.place.scanning c.number.ensures.value c.state.ensures c.in_default.not-Scan2) c.flip-index.ensures.step c.flip-index.ensures.index in
    let some = c.requires.some in
    let same = first.same.1 in
    stops _ _ _ _ _ _ _ _ (one_more _ _ _ _ _ _ _ c.if-once.false (stays _ _ _ c.requires.history c.requires.place) first) (second_scan_moves _ _ _ first.history (omega (arith, some, same)) first.place_is c.add_scan2.ensures.step) (λ _ h. cc)

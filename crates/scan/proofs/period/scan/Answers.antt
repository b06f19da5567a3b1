use Rattle.std.proofs.Common.{◌-◌, ◌∙◌, refl, arith}
use Rattle.scan.proofs.Scans.{unlocks_fit}
use Rattle.scan.proofs.Loads.{unlocks_move, last_unlocks_move, scanned_next}
use Rattle.scan.proofs.RowsOfSteps.{stays, one_more, stops, answered_later, up_to_unlocks}
use Rattle.scan.proofs.period.scan.Goals as goal

pub loop-processor-init : goal.loop-processor-init
loop-processor-init g c = record { through = stays _ _ _ c.requires.history c.requires.place; same = refl; index_is = c.scanned_index-index.ensures }

pub unlocks-ended-requires : goal.unlocks-ended-requires
unlocks-ended-requires g c = let there = c.loop-processor.invariant.through.place_is.there in there

pub overflow_add-ended : goal.overflow_add-ended
overflow_add-ended g c =
    let inv = c.loop-processor.invariant in
    let fits = unlocks_fit _ _ _ _ _ _ inv.through.history inv.through.place_is inv.index_is c.unlocks-ended.ensures in omega (arith, fits)

pub loop-processor-preserved : goal.loop-processor-preserved
loop-processor-preserved g c =
    let inv = c.loop-processor.invariant in
    let test = c.loop-processor-test.true in let all = c.processors-last.ensures.count in let kept = inv.same in let same = c.unlocks-ended.ensures.step.same.1 in record {
      through = one_more _ _ _ _ _ _ _ c.if-once.false inv.through (unlocks_move _ _ _ _ _ _ inv.through.history inv.through.place_is inv.index_is c.unlocks-ended.ensures (omega (arith, test, all, kept, same)));
      same = same ∙ inv.same;
      index_is = scanned_next _ _ _ _ inv.index_is c.unlocks-ended.ensures.step;
    }

pub returns-then-once : goal.returns-then-once
returns-then-once g c =
    let inv = c.loop-processor.invariant in
    let test = c.loop-processor-test.true in let all = c.processors-last.ensures.count in let kept = inv.same in let same = c.unlocks-ended.ensures.step.same.1 in
    let on = c.if-once.true in
    stops _ _ _ _ _ _ _ _ inv.through (unlocks_move _ _ _ _ _ _ inv.through.history inv.through.place_is inv.index_is c.unlocks-ended.ensures (omega (arith, test, all, kept, same))) (λ off. absurd cc)

pub unlocks-ended-requires-2 : goal.unlocks-ended-requires-2
unlocks-ended-requires-2 g c = let kept = c.loop-processor.invariant.same in let all = c.processors-last.ensures.count in let some = c.processors-last.ensures.some in omega (arith, kept, all, some)

pub overflow_add-ended-2 : goal.overflow_add-ended-2
overflow_add-ended-2 g c =
    let over = c.loop-processor-test.false in let end = c.loop-processor.auto.processor-end in let there = c.requires.place.there in let all = c.processors-last.ensures.count in
    let through = up_to_unlocks c.args.once c.args.seat.now c.loop-processor.seat _ _ (c.processors-last.result - 1) _ (omega (arith, over, end, there, all)) c.loop-processor.invariant.through in
    let fits = unlocks_fit _ _ _ _ _ _ through.history through.place_is c.loop-processor.invariant.index_is c.unlocks-ended-2.ensures in omega (arith, fits)

-- one step, and it was the last one
pub returns-then-once-2 : goal.returns-then-once-2
returns-then-once-2 g c =
    let over = c.loop-processor-test.false in let end = c.loop-processor.auto.processor-end in let there = c.requires.place.there in let all = c.processors-last.ensures.count in
    let through = up_to_unlocks c.args.once c.args.seat.now c.loop-processor.seat _ _ (c.processors-last.result - 1) _ (omega (arith, over, end, there, all)) c.loop-processor.invariant.through in
    let kept = c.loop-processor.invariant.same in let same = c.unlocks-ended-2.ensures.step.same.1 in
    let on = c.if-once-2.true in
    stops _ _ _ _ _ _ _ _ through (last_unlocks_move _ _ _ _ _ _ through.history through.place_is c.loop-processor.invariant.index_is c.unlocks-ended-2.ensures (omega (arith, kept, all, same))) (λ off. absurd cc)

pub finish_scan-requires-clause-place : goal.finish_scan-requires-clause-place
finish_scan-requires-clause-place g c =
    let over = c.loop-processor-test.false in let end = c.loop-processor.auto.processor-end in let there = c.requires.place.there in let all = c.processors-last.ensures.count in
    let through = up_to_unlocks c.args.once c.args.seat.now c.loop-processor.seat _ _ (c.processors-last.result - 1) _ (omega (arith, over, end, there, all)) c.loop-processor.invariant.through in
    let kept = c.loop-processor.invariant.same in let same = c.unlocks-ended-2.ensures.step.same.1 in
    (last_unlocks_move _ _ _ _ _ _ through.history through.place_is c.loop-processor.invariant.index_is c.unlocks-ended-2.ensures (omega (arith, kept, all, same))).place_is

pub finish_scan-requires-clause-index : goal.finish_scan-requires-clause-index
finish_scan-requires-clause-index g c = scanned_next _ _ _ _ c.loop-processor.invariant.index_is c.unlocks-ended-2.ensures.step

pub returns : goal.returns
returns g c =
    let over = c.loop-processor-test.false in let end = c.loop-processor.auto.processor-end in let there = c.requires.place.there in let all = c.processors-last.ensures.count in
    let through = up_to_unlocks c.args.once c.args.seat.now c.loop-processor.seat _ _ (c.processors-last.result - 1) _ (omega (arith, over, end, there, all)) c.loop-processor.invariant.through in
    let kept = c.loop-processor.invariant.same in let same = c.unlocks-ended-2.ensures.step.same.1 in
    answered_later _ _ _ _ _ _ _ _ c.if-once-2.false (one_more _ _ _ _ _ _ _ c.if-once-2.false through (last_unlocks_move _ _ _ _ _ _ through.history through.place_is c.loop-processor.invariant.index_is c.unlocks-ended-2.ensures (omega (arith, kept, all, same)))) c.finish_scan.ensures

use Rattle.std.proofs.Common.{◌-◌, ◌∙◌, refl, arith}
use Rattle.scan.proofs.Scans.{locks_fit, passed}
use Rattle.scan.proofs.Loads.{locks_move, passed_move, waits_move, scanned_next}
use Rattle.scan.proofs.RowsOfSteps.{stays, one_more, stops, answered_later, up_to_locks}
use Rattle.scan.proofs.period.finish_scan.Goals as goal

pub loop-processor-init : goal.loop-processor-init
loop-processor-init g c = record { through = stays _ _ _ c.requires.history c.requires.place; same = refl; index_is = c.requires.index }

pub locks-begun-requires : goal.locks-begun-requires
locks-begun-requires g c = let there = c.loop-processor.invariant.through.place_is.there in there

pub overflow_add-begun : goal.overflow_add-begun
overflow_add-begun g c =
    let inv = c.loop-processor.invariant in
    let fits = locks_fit _ _ _ _ _ _ _ inv.through.history inv.through.place_is inv.index_is c.locks-begun.ensures in omega (arith, fits)

pub loop-processor-preserved : goal.loop-processor-preserved
loop-processor-preserved g c =
    let inv = c.loop-processor.invariant in
    let test = c.loop-processor-test.true in let all = c.processors-last.ensures.count in let kept = inv.same in let same = c.locks-begun.ensures.step.same.1 in record {
      through = one_more _ _ _ _ _ _ _ c.if-once.false inv.through (locks_move _ _ _ _ _ _ _ inv.through.history inv.through.place_is inv.index_is c.locks-begun.ensures (omega (arith, test, all, kept, same)));
      same = same ∙ inv.same;
      index_is = scanned_next _ _ _ _ inv.index_is c.locks-begun.ensures.step;
    }

pub locks-begun-requires-2 : goal.locks-begun-requires-2
locks-begun-requires-2 g c = let kept = c.loop-processor.invariant.same in let all = c.processors-last.ensures.count in let some = c.processors-last.ensures.some in omega (arith, kept, all, some)

pub overflow_add-begun-2 : goal.overflow_add-begun-2
overflow_add-begun-2 g c =
    let over = c.loop-processor-test.false in let end = c.loop-processor.auto.processor-end in let there = c.requires.place.there in let all = c.processors-last.ensures.count in
    let through = up_to_locks c.args.once c.args.seat.now c.loop-processor.seat _ _ (c.processors-last.result - 1) _ _ (omega (arith, over, end, there, all)) c.loop-processor.invariant.through in
    let fits = locks_fit _ _ _ _ _ _ _ through.history through.place_is c.loop-processor.invariant.index_is c.locks-begun-2.ensures in omega (arith, fits)

pub leave_scan-requires-clause-some : goal.leave_scan-requires-clause-some
leave_scan-requires-clause-some g c = let kept = c.loop-processor.invariant.same in let same = c.locks-begun-2.ensures.step.same.1 in let all = c.processors-last.ensures.count in let some = c.processors-last.ensures.some in omega (arith, kept, same, all, some)

pub leave_scan-requires-clause-place : goal.leave_scan-requires-clause-place
leave_scan-requires-clause-place g c =
    let over = c.loop-processor-test.false in let end = c.loop-processor.auto.processor-end in let there = c.requires.place.there in let all = c.processors-last.ensures.count in
    let through = up_to_locks c.args.once c.args.seat.now c.loop-processor.seat _ _ (c.processors-last.result - 1) _ _ (omega (arith, over, end, there, all)) c.loop-processor.invariant.through in
    let kept = c.loop-processor.invariant.same in let same = c.locks-begun-2.ensures.step.same.1 in
    passed _ _ _ _ _ _ _ through.history through.place_is c.loop-processor.invariant.index_is c.locks-begun-2.ensures (omega (arith, kept, all, same)) c.if-ended-begun.false

-- one step, and there are more
pub returns-then-once : goal.returns-then-once
returns-then-once g c =
    let inv = c.loop-processor.invariant in
    let test = c.loop-processor-test.true in let all = c.processors-last.ensures.count in let kept = inv.same in let same = c.locks-begun.ensures.step.same.1 in
    let on = c.if-once.true in
    stops _ _ _ _ _ _ _ _ inv.through (locks_move _ _ _ _ _ _ _ inv.through.history inv.through.place_is inv.index_is c.locks-begun.ensures (omega (arith, test, all, kept, same))) (λ off. absurd cc)

-- the sums are not equal
pub returns-then-ended-begun : goal.returns-then-ended-begun
returns-then-ended-begun g c =
    let over = c.loop-processor-test.false in let end = c.loop-processor.auto.processor-end in let there = c.requires.place.there in let all = c.processors-last.ensures.count in
    let through = up_to_locks c.args.once c.args.seat.now c.loop-processor.seat _ _ (c.processors-last.result - 1) _ _ (omega (arith, over, end, there, all)) c.loop-processor.invariant.through in
    let kept = c.loop-processor.invariant.same in let same = c.locks-begun-2.ensures.step.same.1 in
    let some = c.processors-last.ensures.some in
    stops _ _ _ _ _ _ _ _ through (waits_move _ _ _ _ _ _ _ through.history through.place_is c.loop-processor.invariant.index_is c.locks-begun-2.ensures (omega (arith, kept, all, same)) (omega (arith, kept, all, same, some)) c.if-ended-begun.true) (λ _ h. cc)

-- they are, and that was one step
pub returns-then-once-2 : goal.returns-then-once-2
returns-then-once-2 g c =
    let over = c.loop-processor-test.false in let end = c.loop-processor.auto.processor-end in let there = c.requires.place.there in let all = c.processors-last.ensures.count in
    let through = up_to_locks c.args.once c.args.seat.now c.loop-processor.seat _ _ (c.processors-last.result - 1) _ _ (omega (arith, over, end, there, all)) c.loop-processor.invariant.through in
    let kept = c.loop-processor.invariant.same in let same = c.locks-begun-2.ensures.step.same.1 in
    let on = c.if-once-2.true in
    stops _ _ _ _ _ _ _ _ through (passed_move _ _ _ _ _ _ _ through.history through.place_is c.loop-processor.invariant.index_is c.locks-begun-2.ensures (omega (arith, kept, all, same)) c.if-ended-begun.false) (λ off. absurd cc)

pub returns : goal.returns
returns g c =
    let over = c.loop-processor-test.false in let end = c.loop-processor.auto.processor-end in let there = c.requires.place.there in let all = c.processors-last.ensures.count in
    let through = up_to_locks c.args.once c.args.seat.now c.loop-processor.seat _ _ (c.processors-last.result - 1) _ _ (omega (arith, over, end, there, all)) c.loop-processor.invariant.through in
    let kept = c.loop-processor.invariant.same in let same = c.locks-begun-2.ensures.step.same.1 in
    let move = passed_move _ _ _ _ _ _ _ through.history through.place_is c.loop-processor.invariant.index_is c.locks-begun-2.ensures (omega (arith, kept, all, same)) c.if-ended-begun.false in
    answered_later _ c.args.seat.now c.locks-begun-2.new.self c.leave_scan.new.seat _ _ _ _ c.if-once-2.false (one_more _ _ _ _ _ _ _ c.if-once-2.false through move) c.leave_scan.ensures

-- One slot more is counted, or all eight are.
use Rattle.std.proofs.Common.{arith}
use Rattle.boxes.proofs.Left.{left_next, left_past}
use Rattle.boxes.proofs.writer.BoxWriter.left.Goals as goal

pub loop-slot-preserved : goal.loop-slot-preserved
loop-slot-preserved g c =
    let v = c.loop-slot.invariant in
    let counted = v.counted in
    let low = v.low in
    let one = c.left_at-left.ensures.0 in
    let few = c.left_at-left.ensures.1 in
    let next = left_next c.args.self.now.stored c.loop-slot.slot in
    record { counted = omega (arith, counted, one, next); low = omega (arith, low, few); eight = λ _. c.left_at-left.ensures.2 }

pub returns : goal.returns
returns g c =
    let v = c.loop-slot.invariant in
    let counted = v.counted in
    let done = c.loop-slot-test.false in
    let eight = v.eight (omega (arith, done)) in
    let past = left_past c.args.self.now.stored c.loop-slot.slot (omega (arith, done, eight)) in
    omega (arith, counted, past)

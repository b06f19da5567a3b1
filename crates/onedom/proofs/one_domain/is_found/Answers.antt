use Rattle.std.proofs.Common.{◌≡◌, length, arith}
use Rattle.onedom.proofs.Cells.{unread_on, unread_all}
use Rattle.onedom.proofs.one_domain.is_found.Goals as goal

pub loop-event-preserved : goal.loop-event-preserved
loop-event-preserved c = unread_on c.args.history.now c.args.cell c.args.slot c.loop-event.event-index _ c.loop-event-test.true (λ s is_open found. let f = c.if-is_reading.ensures.1 (s, is_open, found) in absurd cc) c.loop-event.invariant

pub returns : goal.returns
returns c = let at_end : c.loop-event.event-index ≡ length c.args.history.now = omega arith in
    let none = unread_all c.args.history.now c.args.cell c.args.slot c.loop-event.event-index at_end c.loop-event.invariant in
    ((λ h. absurd cc), (λ found. let z = none found.0 found.1 in let some = found.2 in absurd (omega (arith, z, some))))

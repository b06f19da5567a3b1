use Rattle.std.proofs.Common.{◌≡◌, ℕ, length, refl, subst, arith}
use Rattle.onedom.proofs.Periods.{passed_on, passed_begin, passed_other, none_still_open, IsPassed}
use Rattle.onedom.proofs.one_domain.is_still_open.Goals as goal
use Rattle.onedom.proofs.one_domain.is_still_open.Goals.{in-Begin+else-is_open, else-is_open-via-then-is_open+else-is_open-2, else-is_open-via-else-is_open, in_default-event}

pub loop-event-preserved : goal.loop-event-preserved
loop-event-preserved c =
    elim c.match-event.branch [
      | in-Begin+else-is_open w ↦ elim w.else-is_open.branch [
        | else-is_open-via-then-is_open+else-is_open-2 v ↦ passed_on c.in-Some.before.now c.args.history.now c.loop-event.event-index _ _ c.loop-event-test.true w.in-Begin.is
            (passed_begin c.in-Some.before.now c.args.history.now w.in-Begin.section w.in-Begin.processor w.in-Begin.index w.in-Begin.by (λ was is_open. v.if-is_open-2.ensures.1 is_open)) c.loop-event.invariant
        | else-is_open-via-else-is_open v ↦ passed_on c.in-Some.before.now c.args.history.now c.loop-event.event-index _ _ c.loop-event-test.true w.in-Begin.is
            (passed_begin c.in-Some.before.now c.args.history.now w.in-Begin.section w.in-Begin.processor w.in-Begin.index w.in-Begin.by (λ was is_open. v.if-is_open.ensures.1 was)) c.loop-event.invariant
      ]
      | in_default-event w ↦ passed_on c.in-Some.before.now c.args.history.now c.loop-event.event-index _ _ c.loop-event-test.true refl (passed_other c.in-Some.before.now c.args.history.now _ w.in_default-event.not-Begin) c.loop-event.invariant
    ]

pub returns : goal.returns
returns c = let at_end : c.loop-event.event-index ≡ length c.in-Some.before.now = omega arith in
    let none = none_still_open c.in-Some.before.now c.args.history.now c.in-Some.ensures (subst (λ (n : ℕ). IsPassed c.in-Some.before.now c.args.history.now n) at_end c.loop-event.invariant) in
    ((λ h. absurd cc), (λ stuck. absurd (none stuck.0 stuck.1 stuck.2)))

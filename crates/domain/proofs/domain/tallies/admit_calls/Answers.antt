use Rattle.std.proofs.Common.{refl, sym, ap, ◌∙◌, ◌≡◌, ◌<◌, length, arith}
use Rattle.calls.specs.Tallies as deeds
use Rattle.calls.specs.Views.{CallSeatView}
use Rattle.domain.specs.Views.{CpuView}
use Rattle.domain.proofs.Rows.{goes_none, goes_next, item_has}
use Rattle.domain.proofs.Counted.{heard_here}
use Rattle.domain.proofs.domain.tallies.admit_calls.Goals as goal

pub loop-other-init : goal.loop-other-init
loop-other-init g c = record { seat = refl; goes = goes_none _ _ }

pub admit-requires-clause-tallies : goal.admit-requires-clause-tallies
admit-requires-clause-tallies g c =
    let v = c.loop-other.invariant in
    let inside = c.loop-other-test.true in
    let long = c.loop-other.auto.others in
    item_has _ (λ (z : CpuView _). z.calls.tallies ≡ c.args.seat.now.tallies) _ _ _ _ _ v.goes (omega (arith, inside, long)) c.other.view_is c.requires.tallies
    ∙ sym (ap (λ (z : CallSeatView _). z.tallies) v.seat)

pub admit-requires-clause-covered : goal.admit-requires-clause-covered
admit-requires-clause-covered g c =
    let v = c.loop-other.invariant in
    let inside = c.loop-other-test.true in
    let long = c.loop-other.auto.others in
    rw (v.seat) (item_has _ (λ (z : CpuView _). deeds.IsBeginning z.calls.seen c.args.seat.now.seen) _ _ _ _ _ v.goes (omega (arith, inside, long)) c.other.view_is c.requires.covered)

pub loop-other-preserved : goal.loop-other-preserved
loop-other-preserved g c =
    let v = c.loop-other.invariant in
    let at = c.loop-other-test.true in
    let long = c.loop-other.auto.others in
    let inside : c.loop-other.other-index < length c.loop-other.others = omega (arith, at, long) in
    record {
      seat = c.admit.ensures.stays ∙ v.seat;
      goes = goes_next _ _ _ _ _ _ _ v.goes inside c.other.view_is (heard_here _ _ (record { cpu = c.other.inside.cpu; needs = c.other.inside.needs; turn = c.other.inside.turn; calls = c.other.inside.calls }) _ v.seat c.admit.ensures.accepts);
    }

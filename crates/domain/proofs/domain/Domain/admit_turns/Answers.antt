use Rattle.std.proofs.Common.{refl, sym, ap, ◌∙◌, ◌≡◌, ◌<◌, length, subst, arith}
use Rattle.desk.specs.Swaps as swaps
use Rattle.desk.specs.Glossary.{BaySeatView, Accepts}
use Rattle.domain.specs.Views.{Engine, CpuView, DomainView}
use Rattle.domain.proofs.Rows.{goes_none, goes_next, item_has}
use Rattle.domain.proofs.domain.Domain.admit_turns.Goals as goal

pub loop-other-init : goal.loop-other-init
loop-other-init g c = record { turn = refl; goes = goes_none _ _ }

pub admit_seat-requires-clause-station : goal.admit_seat-requires-clause-station
admit_seat-requires-clause-station g c = ap (λ (z : BaySeatView Engine). z.bay) c.loop-other.invariant.turn ∙ (c.requires.bay ∙ sym (ap (λ (z : DomainView). z.bay) c.self.view_is))

pub admit_seat-requires-clause-other : goal.admit_seat-requires-clause-other
admit_seat-requires-clause-other g c =
    let v = c.loop-other.invariant in
    let inside = c.loop-other-test.true in
    let long = c.loop-other.auto.others in
    item_has _ (λ (z : CpuView _). z.turn.bay ≡ c.args.self.now.bay) _ _ _ _ _ v.goes (omega (arith, inside, long)) c.other.view_is c.requires.beside ∙ sym (ap (λ (z : DomainView). z.bay) c.self.view_is)

pub admit_seat-requires-clause-covered : goal.admit_seat-requires-clause-covered
admit_seat-requires-clause-covered g c =
    let v = c.loop-other.invariant in
    let inside = c.loop-other-test.true in
    let long = c.loop-other.auto.others in
    rw (v.turn) (item_has _ (λ (z : CpuView _). swaps.IsBeginning z.turn.seen c.args.turn.now.seen) _ _ _ _ _ v.goes (omega (arith, inside, long)) c.other.view_is c.requires.covered)

pub loop-other-preserved : goal.loop-other-preserved
loop-other-preserved g c =
    let v = c.loop-other.invariant in
    let at = c.loop-other-test.true in
    let long = c.loop-other.auto.others in
    let inside : c.loop-other.other-index < length c.loop-other.others = omega (arith, at, long) in
    record {
      turn = c.admit_seat.ensures.stays ∙ v.turn;
      goes = goes_next _ _ _ _ _ _ _ v.goes inside c.other.view_is (record {
        cpu = refl;
        needs = refl;
        turn = subst (λ (z : BaySeatView Engine). Accepts c.other.inside.turn z.seen c.admit_seat.new.other) v.turn c.admit_seat.ensures.accepts;
        calls = refl;
      });
    }

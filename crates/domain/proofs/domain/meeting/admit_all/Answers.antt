use Rattle.std.proofs.Common.{refl, sym, ap, ◌∙◌, ◌≡◌, ◌<◌, ◌≤◌, length, arith}
use Rattle.onedom.specs.Histories as events
use Rattle.funnel.specs.Histories as tree
use Rattle.domain.specs.Views.{Engine, CpuView}
use Rattle.domain.proofs.Rows.{goes_none, goes_next, item_has}
use Rattle.domain.proofs.Covering.{admitted_here}
use Rattle.domain.proofs.domain.meeting.admit_all.Goals as goal

pub loop-other-init : goal.loop-other-init
loop-other-init g c = record { engine = refl; needs = refl; goes = goes_none _ _ }

pub admit-requires-clause-domain : goal.admit-requires-clause-domain
admit-requires-clause-domain g c =
    let v = c.loop-other.invariant in
    let inside = c.loop-other-test.true in
    let long = c.loop-other.auto.others in
    item_has _ (λ (z : CpuView _). z.cpu.domain ≡ c.args.engine.now.seat.domain) _ _ _ _ _ v.goes (omega (arith, inside, long)) c.other.view_is (λ k d lt. (c.requires.domain k d lt).0)
    ∙ sym (ap (λ (z : Engine). z.seat.domain) v.engine)

pub admit-requires-clause-covered : goal.admit-requires-clause-covered
admit-requires-clause-covered g c =
    let v = c.loop-other.invariant in
    let inside = c.loop-other-test.true in
    let long = c.loop-other.auto.others in
    rw (v.engine) (item_has _ (λ (z : CpuView _). events.IsBeginning z.cpu.seen c.args.engine.now.seat.seen × (z.cpu.changes ≤ c.args.engine.now.seat.changes)) _ _ _ _ _ v.goes (omega (arith, inside, long)) c.other.view_is c.requires.events)

pub loop-other-preserved : goal.loop-other-preserved
loop-other-preserved g c =
    let v = c.loop-other.invariant in
    let at = c.loop-other-test.true in
    let long = c.loop-other.auto.others in
    let inside : c.loop-other.other-index < length c.loop-other.others = omega (arith, at, long) in
    let since = item_has _ (λ (z : CpuView _). events.IsBeginning z.cpu.seen c.args.engine.now.seat.seen × (z.cpu.changes ≤ c.args.engine.now.seat.changes)) _ _ _ _ _ v.goes inside c.other.view_is c.requires.events in
    let raises = item_has _ (λ (z : CpuView _). tree.IsBeginning z.needs.seen c.args.needs.now.seen) _ _ _ _ _ v.goes inside c.other.view_is c.requires.raises in
    let h = c.admit.ensures in
    record {
      engine = h.engine ∙ v.engine;
      needs = c.admit-in-loop-other.ensures.stays ∙ v.needs;
      goes = goes_next _ _ _ _ _ _ _ v.goes inside c.other.view_is
          (admitted_here _ _ _ _ (record { cpu = c.other.inside.cpu; needs = c.other.inside.needs; turn = c.other.inside.turn; calls = c.other.inside.calls }) _ _ v.engine v.needs since raises h.cpu h.was h.sized h.heard c.admit-in-loop-other.ensures.accepts);
    }

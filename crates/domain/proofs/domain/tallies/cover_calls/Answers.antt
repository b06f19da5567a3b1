use Rattle.std.proofs.Common.{◌<◌, List, get_or, length, refl, sym, ap, ◌∙◌}
use Rattle.calls.specs.Views.{CallSeatView}
use Rattle.domain.specs.Views.{CpuView}
use Rattle.domain.proofs.Rows.{still}
use Rattle.domain.proofs.Counted.{calls_none, calls_next}
use Rattle.domain.proofs.domain.tallies.cover_calls.Goals as goal

pub loop-other-init : goal.loop-other-init
loop-other-init g c = record { others = refl; seat = calls_none _ _ }

pub cover-requires : goal.cover-requires
cover-requires g c =
    let v = c.loop-other.invariant in
    let inside : c.loop-other.other-index < length c.args.others.now = c.loop-other-test.true in
    let at = c.other.view_is ∙ ap (λ (xs : List (CpuView _)). get_or xs c.loop-other.other-index c.other-item.result) v.others in
    ap (λ (z : CpuView _). z.calls.tallies) at ∙ (c.requires c.loop-other.other-index c.other-item.result inside ∙ sym (ap (λ (z : CallSeatView _). z.tallies) v.seat.same))

pub loop-other-preserved : goal.loop-other-preserved
loop-other-preserved g c =
    let v = c.loop-other.invariant in
    let inside : c.loop-other.other-index < length c.args.others.now = c.loop-other-test.true in
    let at = c.other.view_is ∙ ap (λ (xs : List (CpuView _)). get_or xs c.loop-other.other-index c.other-item.result) v.others in
    record {
      others = still _ _ _ (record { cpu = c.other.inside.cpu; needs = c.other.inside.needs; turn = c.other.inside.turn; calls = c.other.inside.calls }) _ _ v.others
          (λ i. record { cpu = c.other.inside.cpu; needs = c.other.inside.needs; turn = c.other.inside.turn; calls = c.cover.ensures.other i }) c.other.view_is;
      seat = calls_next _ _ _ _ _ _ _ inside at v.seat c.cover.ensures.covers;
    }

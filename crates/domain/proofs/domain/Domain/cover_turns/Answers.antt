use Rattle.std.proofs.Common.{◌<◌, List, get_or, length, refl, ap, ◌∙◌}
use Rattle.domain.specs.Views.{CpuView}
use Rattle.domain.proofs.Rows.{still}
use Rattle.domain.proofs.Covering.{turn_none, turn_next}
use Rattle.domain.proofs.domain.Domain.cover_turns.Goals as goal

pub loop-other-init : goal.loop-other-init
loop-other-init g c = record { others = refl; turn = turn_none _ _ }

pub loop-other-preserved : goal.loop-other-preserved
loop-other-preserved g c =
    let v = c.loop-other.invariant in
    let inside : c.loop-other.other-index < length c.args.others.now = c.loop-other-test.true in
    let at = c.other.view_is ∙ ap (λ (xs : List (CpuView _)). get_or xs c.loop-other.other-index c.other-item.result) v.others in
    record {
      others = still _ _ _ (record { cpu = c.other.inside.cpu; needs = c.other.inside.needs; turn = c.other.inside.turn; calls = c.other.inside.calls }) _ _ v.others
          (λ i. record { cpu = c.other.inside.cpu; needs = c.other.inside.needs; turn = c.cover_seat.ensures.other i; calls = c.other.inside.calls }) c.other.view_is;
      turn = turn_next _ _ _ _ _ _ _ inside at v.turn c.cover_seat.ensures.covers;
    }

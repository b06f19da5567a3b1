use Rattle.std.proofs.Common.{◌<◌, List, get_or, length, refl, ap, ◌∙◌}
use Rattle.scan.specs.Progress.{with_seat}
use Rattle.domain.specs.Views.{Engine, CpuView}
use Rattle.domain.proofs.Rows.{still}
use Rattle.domain.proofs.Covering.{engine_none, engine_next}
use Rattle.domain.proofs.domain.counting.cover_cpus.Goals as goal

pub loop-other-init : goal.loop-other-init
loop-other-init g c = record { others = refl; engine = engine_none _ _ c.requires.history; rest = refl }

pub loop-other-preserved : goal.loop-other-preserved
loop-other-preserved g c =
    let v = c.loop-other.invariant in
    let inside : c.loop-other.other-index < length c.args.others.now = c.loop-other-test.true in
    let at = c.other.view_is ∙ ap (λ (xs : List (CpuView _)). get_or xs c.loop-other.other-index c.other-item.result) v.others in
    let first = c.cover.ensures in
    record {
      others = still _ _ _ (record { cpu = c.other.inside.cpu; needs = c.other.inside.needs; turn = c.other.inside.turn; calls = c.other.inside.calls }) _ _ v.others
          (λ i. record { cpu = first.cpu i; needs = c.other.inside.needs; turn = c.other.inside.turn; calls = c.other.inside.calls }) c.other.view_is;
      engine = engine_next _ _ _ _ _ _ _ inside at v.engine first.engine;
      rest = first.rest ∙ ap (λ (z : Engine). with_seat c.cover.new.self.seat z) v.rest;
    }

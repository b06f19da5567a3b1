use Rattle.std.proofs.Common.{length, ap, ◌∙◌}
use Rattle.sections.specs.declared.view.Plan.{Plan}
use Rattle.sections_tests.proofs.tests.boxes.a_box_comes_back.Goals as goal

pub lay_and_collect-back-requires-clause-keys : goal.lay_and_collect-back-requires-clause-keys
lay_and_collect-back-requires-clause-keys g c = record {
  laid = c.equip_all.ensures.keys.0;
  of = c.equip_all.ensures.keys.1;
  eight = ap length c.equip_all.ensures.same.1 ∙ ap (λ (q : Plan). length q.banks) c.in_ok-cpu.ensures.7;
}

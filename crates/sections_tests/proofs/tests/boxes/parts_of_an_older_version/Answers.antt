use Rattle.std.proofs.Common.{length, ap, ◌∙◌}
use Rattle.sections.specs.declared.view.Plan.{Plan}
use Rattle.sections_tests.proofs.tests.boxes.parts_of_an_older_version.Goals as goal

pub put_box-first-requires-clause-keys : goal.put_box-first-requires-clause-keys
put_box-first-requires-clause-keys g c = record {
  laid = c.equip_all.ensures.keys.0;
  of = c.equip_all.ensures.keys.1;
  eight = ap length c.equip_all.ensures.same.1 ∙ ap (λ (q : Plan). length q.banks) c.in_ok-cpu.ensures.7;
}

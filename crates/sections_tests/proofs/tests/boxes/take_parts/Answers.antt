use Rattle.std.proofs.Common.{length, ap, ◌∙◌}
use Rattle.sections.specs.declared.view.Bank.{Bank}
use Rattle.sections.specs.declared.view.Plan.{Plan}
use Rattle.sections_tests.proofs.Banks.{there}
use Rattle.sections_tests.proofs.tests.boxes.take_parts.Goals as goal

pub collect-second-requires-clause-next : goal.collect-second-requires-clause-next
collect-second-requires-clause-next c =
    let gives = c.in_ok-slot.ensures in
    ap (λ (z : Bank). z.emptied) (there c.blank.new.self c.collect-first.new.self c.in_ok-slot.slot.slot _ (ap (λ (q : Plan). length q.banks) gives.plan ∙ c.requires.keys.eight) gives.low c.collect-first.ensures.after)

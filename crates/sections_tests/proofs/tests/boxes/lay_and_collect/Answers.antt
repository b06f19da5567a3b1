use Rattle.std.proofs.Common.{◌≡◌, ℕ, length, ap, ◌∙◌}
use Rattle.sections.specs.declared.view.Bank.{Bank}
use Rattle.sections.specs.declared.view.Plan.{Plan}
use Rattle.sections.specs.WriterViews.{WriterView}
use Rattle.sections_tests.proofs.Banks.{there, long}
use Rattle.sections_tests.proofs.tests.boxes.lay_and_collect.Goals as goal

pub collect-second-requires-clause-next : goal.collect-second-requires-clause-next
collect-second-requires-clause-next c =
    let x : ℕ = c.in_ok-slot.slot.slot in
    let out : WriterView = c.blank.new.self in
    let one : WriterView = c.lay.new.self in
    let two : WriterView = c.lay-2.new.self in
    let gives = c.in_ok-slot.ensures in
    let long_out : length out.plan.banks ≡ 8 = ap (λ (q : Plan). length q.banks) gives.plan ∙ c.requires.keys.eight in
    ap (λ (z : Bank). z.emptied) (there two c.collect-first.new.self x _ (long one two x _ (long out one x _ long_out c.lay.ensures) c.lay-2.ensures) gives.low c.collect-first.ensures.after)

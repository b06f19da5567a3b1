use Rattle.std.proofs.Common.{◌≡◌, ◌≢◌, ℕ, ap, ◌∙◌}
use Rattle.sections.specs.declared.view.Plan.{Plan}
use Rattle.sections.specs.Banks.{bank_of}
use Rattle.sections.specs.WriterViews.{WriterView}
use Rattle.sections_tests.specs.Ready.{HasAllKeys}
use Rattle.sections_tests.proofs.Banks.{keys_as, keys_same, fresh_else, fresh_put}
use Rattle.sections_tests.proofs.tests.boxes.put_box.Goals as goal

pub returns-clause-writer : goal.returns-clause-writer
returns-clause-writer c =
    let x : ℕ = c.in_ok-slot.slot.slot in
    let out : WriterView = c.blank.new.self in
    let one : WriterView = c.lay.new.self in
    let two : WriterView = c.lay-2.new.self in
    let gives = c.in_ok-slot.ensures in
    let puts = c.put.ensures.puts in
    let keys_two : HasAllKeys c.args.vault.now two = keys_as c.args.vault.now one two x _ (ap (λ (z : WriterView). z.plan) c.lay-2.ensures)
    (keys_as c.args.vault.now out one x _ (ap (λ (z : WriterView). z.plan) c.lay.ensures) (keys_same c.args.vault.now c.args.writer.now out gives.plan c.requires.keys)) in
    let fresh_out : (y : ℕ) → y ≢ x → (bank_of out.plan y).emptied ≡ 0 = λ y ne. ap (λ (q : Plan). (bank_of q y).emptied) gives.plan ∙ c.requires.fresh y in
    let fresh_two : (y : ℕ) → y ≢ x → (bank_of two.plan y).emptied ≡ 0 = fresh_else one.plan two.plan x _ (ap (λ (z : WriterView). z.plan) c.lay-2.ensures) (fresh_else out.plan one.plan x _ (ap (λ (z : WriterView). z.plan) c.lay.ensures) fresh_out) in record {
      domain = puts.domain ∙ (ap (λ (z : WriterView). z.domain) c.lay-2.ensures ∙ (ap (λ (z : WriterView). z.domain) c.lay.ensures ∙ gives.same.domain));
      keys = keys_as c.args.vault.now two c.put.new.self x _ puts.plan keys_two;
      fresh = fresh_put two.plan c.put.new.self.plan x puts.plan keys_two.eight gives.low fresh_two;
    }

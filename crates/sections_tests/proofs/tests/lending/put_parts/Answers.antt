use Rattle.std.proofs.Common.{◌≡◌, ℕ, ◌≤◌, sym, ap, ◌∙◌, subst, arith}
use Rattle.atomic_table.specs.Seated.{TableId}
use Rattle.sections.specs.Boxes.{KnowsVault, vault_of}
use Rattle.sections.specs.Banks.{vault_in}
use Rattle.sections.specs.WriterViews.{WriterView}
use Rattle.sections.proofs.CallerLemmas.{put_knows}
use Rattle.sections_tests.proofs.tests.lending.put_parts.Goals as goal

pub returns-clause-knows : goal.returns-clause-knows
returns-clause-knows c =
    let w : WriterView = c.lay-2.new.self in
    let gives = c.in_ok-slot.ensures in
    let cell : w.cell ≡ c.args.writer.now.cell = ap (λ (z : WriterView). z.cell) c.lay-2.ensures ∙ (ap (λ (z : WriterView). z.cell) c.lay.ensures ∙ gives.same.cell) in
    let keys : w.plan.keys ≡ 16 = ap (λ (z : WriterView). z.plan.keys) c.lay-2.ensures ∙ (ap (λ (z : WriterView). z.plan.keys) c.lay.ensures ∙ (ap (λ q. q.keys) gives.plan ∙ c.requires.keys.0)) in
    let vault : vault_of w ≡ c.args.vault.now = ap (λ (z : WriterView). vault_of z) c.lay-2.ensures ∙ (ap (λ (z : WriterView). vault_of z) c.lay.ensures ∙ (ap (λ q. vault_in q.vault) gives.plan ∙ c.requires.keys.1)) in
    subst (λ (z : ℕ × TableId). KnowsVault z.0 16 z.1 c.put.new.cpu.texts) (λ j. (cell j, vault j)) (put_knows _ _ 16 _ _ _ _ c.put.ensures.puts (omega arith) (omega (arith, keys)))

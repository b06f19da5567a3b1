-- The keys were laid, and a version was put that knows of it.
use Rattle.std.proofs.Common.{◌≡◌, ℕ, ◌*◌, ◌<◌, List, None, replicate, refl, sym, ap, ◌∙◌, subst, arith}
use Rattle.std.proofs.lemmas.List.{get_or-replicate}
use Rattle.atomic_table.specs.Seated.{TableId}
use Rattle.sections.specs.declared.view.Plan.{Plan}
use Rattle.sections.specs.declared.view.Text.{Text}
use Rattle.sections.specs.Shelves.{IsKnown}
use Rattle.sections.specs.Words.{cells_in}
use Rattle.sections.specs.Boxes.{KnowsVault}
use Rattle.sections.proofs.CallerLemmas.{put_known, put_knows}
use Rattle.std.specs.Arc.{arc_value}
use Rattle.sections.specs.Boxes.{vault_of}
use Rattle.domain.specs.Views.{CpuView, with_cpu}
use Rattle.boxes.specs.Laying.{HasKeys}
use Rattle.boxes.specs.Writing.{Equips}
use Rattle.boxes.proofs.Putting.{same_trans, same_planned}
use Rattle.boxes.proofs.Slots.{put_none_keeps, none_laid}
use Rattle.boxes.proofs.making.make.Goals as goal

pub current-first-requires-clause-known : goal.current-first-requires-clause-known
current-first-requires-clause-known g c = let p = c.put_and_ask.ensures.puts.puts in
    rw (c.deref_mut.ensures.shows) (subst (λ (k : ℕ). IsKnown k c.put_and_ask.new.writer.version c.put_and_ask.new.cpu.cpu.texts) (sym p.cell) (put_known _ _ _ _ _ _ p))

pub invariant_of-made : goal.invariant_of-made
invariant_of-made g c =
    let keys = c.lay_keys.ensures.keys in
    let low = c.in-Some.ensures.low in
    let bare = none_laid _ _ c.lay_keys.new.writer (c.lay_keys.ensures.banks ∙ ap (λ (q : Plan). q.banks) (c.in-Some.ensures.plan ∙ c.requires.plain)) in
    let k = put_none_keeps c.in-Some.slot.slot c.processors-processors.result _ c.lay_keys.new.writer c.put_and_ask.new.writer (replicate 8 None) refl low
    (subst (λ (t : TableId). HasKeys c.processors-processors.result t c.lay_keys.new.writer) c.deref-2.ensures keys) bare (get_or-replicate 8 c.in-Some.slot.slot None None low) c.put_and_ask.ensures.puts.puts.plan in
    record { eight = refl; keys = k.0; laid = k.1 }

pub invariant_of-boxes : goal.invariant_of-boxes
invariant_of-boxes g c =
    let p = c.put_and_ask.ensures.puts.puts in
    let keys = c.lay_keys.ensures.keys in
    let n : ℕ = c.processors-processors.result in
    let first = c.current-first.ensures.found in
    let some = keys.some in
    let all = keys.keys in
    let laid = keys.of in
    let shown = c.deref-2.ensures in
    let same = c.in-Ok.ensures.same in
    let one = c.in-Ok.vault-is in
    let other = c.in-Ok.other-is in
    let vault : vault_of c.lay_keys.new.writer ≡ arc_value c.in-Ok.other = cc in
    let domain = (p.domain ∙ (ap (λ z. z.domain) c.lay_keys.ensures.rest ∙ (c.in-Some.ensures.same.domain ∙ c.requires.here))) ∙ sym (ap (λ z. z.domain) first ∙ (ap (λ z. z.domain) c.deref_mut.ensures.shows ∙ c.put_and_ask.ensures.here.domain)) in record {
      inside = subst (λ (z : ℕ × TableId). z.0 < cells_in z.1) (λ i. (sym c.cell-cell.ensures i, domain i)) c.current-first.ensures.inside;
      knows = subst (λ (z : ℕ × TableId × List Text). KnowsVault z.0 (8 * n) z.1 z.2)
          (λ i. (sym (c.cell-cell.ensures ∙ p.cell) i, vault i, (ap (λ z. z.texts) (sym c.deref_mut.ensures.shows) ∙ ap (λ z. z.texts) (sym first)) i)) (put_knows _ _ (8 * n) _ _ _ _ p (omega (arith, some)) (omega (arith, all)));
    }

pub returns-clause-puts : goal.returns-clause-puts
returns-clause-puts g c = subst (λ (z : CpuView _). Equips c.args.writer c.args.cpu.now c.put_and_ask.new.writer z) (sym (ap (λ z. with_cpu z c.put_and_ask.new.cpu) (c.current-first.ensures.same ∙ c.deref_mut.ensures.shows))) (record {
  equipped = c.lay_keys.new.writer;
  same = same_trans c.args.writer c.blank.new.self c.lay_keys.new.writer c.in-Some.ensures.same (same_planned c.blank.new.self c.lay_keys.new.writer c.lay_keys.ensures.rest);
  slot = c.in-Some.slot.slot;
  cookie = c.put_and_ask.result;
  puts = c.put_and_ask.ensures.puts;
})

-- A block that may not stand where it does is in no chain.
use Rattle.std.proofs.Common.{rules, ◌≡◌, ◌<◌, ℕ, IsTrue, List, All, map, take, get_or, bit_or, ap, ◌∙◌, subst, sym, arith}
use Rattle.std.proofs.lemmas.List.{take-map, take_all, length-map}
use Rattle.std.proofs.lemmas.List.Elements.{All-more}
use Rattle.notify.specs.declared.block.Block.{Block}
use Rattle.notify.specs.Blocks.{IsChain, IsMarked, HasNone, block_at}
use Rattle.notify.proofs.Chains.{blank, chain_more, chain_known, chain_new, chain_follows, comes_behind, there_too, same_block}
use Rattle.notify.proofs.Marks.{marked_still, marked_now}
use Rattle.notify.proofs.order.is_chain.Goals.{then-id-ids-via-then-id-ids, then-id-ids-via-else-id-ids+then-not-may_follow, then-id-ids-via-else-id-ids+else-not-may_follow+then-not-is_new}
use Rattle.notify.proofs.order.is_chain.Goals as goal

pub is_new-requires : goal.is_new-requires
is_new-requires c = subst (λ (l : List Block). All (λ b. IsMarked c.loop-place.marks b.id) l) (take-map block_at c.loop-place.place c.args.used.now) c.loop-place.invariant.marked

pub returns-then-id-ids : goal.returns-then-id-ids
returns-then-id-ids c =
    let used = c.args.used.now in let place = c.loop-place.place in
    let there = there_too used place c.loop-place-test.true in
    let is : c.block-id.result.id ≡ (get_or (map block_at used) place blank).id = ap (λ (b : Block). b.id) (c.block-id.ensures ∙ sym (same_block used place c.loop-place-test.true)) in (
      λ f. absurd (search rules),
      λ chain. elim c.then-id-ids.branch [
        | then-id-ids-via-then-id-ids w ↦ let known = chain_known c.args.ids (map block_at used) place there chain in let h = w.if-id-ids.true in absurd (omega (arith, known, is, h))
        | then-id-ids-via-else-id-ids+then-not-may_follow w ↦ subst IsTrue w.if-not-may_follow.true (w.may_follow.ensures.1 (chain_follows c.args.ids (map block_at used) place there chain))
        | then-id-ids-via-else-id-ids+else-not-may_follow+then-not-is_new w ↦
            subst IsTrue w.if-not-is_new.true (w.is_new.ensures.1 (subst (λ (n : ℕ). HasNone n (map block_at (take place used))) (sym is)
            (subst (λ (l : List Block). HasNone (get_or (map block_at used) place blank).id l) (take-map block_at place used) (chain_new c.args.ids (map block_at used) place there chain))))
      ],
    )

pub loop-place-preserved : goal.loop-place-preserved
loop-place-preserved c =
    let used = c.args.used.now in let place = c.loop-place.place in let n = length-map used block_at in let few = c.requires in
    let there = there_too used place c.loop-place-test.true in
    let is : c.block-id.result.id ≡ (get_or (map block_at used) place blank).id = ap (λ (b : Block). b.id) (c.block-id.ensures ∙ sym (same_block used place c.loop-place-test.true)) in
    let new : HasNone (get_or (map block_at used) place blank).id (take place (map block_at used)) =
    subst (λ (k : ℕ). HasNone k (take place (map block_at used))) is (subst (λ (l : List Block). HasNone c.block-id.result.id l) (sym (take-map block_at place used)) (c.is_new.ensures.0 (search rules))) in record {
      chain = chain_more c.args.ids (map block_at used) place there (omega (arith, n, few)) (subst (λ (k : ℕ). k < c.args.ids) is c.if-id-ids.false)
          (comes_behind c.args.ids (map block_at used) place there c.loop-place.invariant.chain (c.may_follow.ensures.0 (search rules)) new) c.loop-place.invariant.chain;
      marked = All-more (λ b. IsMarked (bit_or c.loop-place.marks c.mark_of-marks.result) b.id) (map block_at used) place blank there
          (λ k d lt. marked_still c.loop-place.marks c.mark_of-marks.result _ (c.loop-place.invariant.marked k d lt))
          (subst (IsMarked (bit_or c.loop-place.marks c.mark_of-marks.result)) is (subst (λ (m : ℕ). IsMarked (bit_or c.loop-place.marks m) c.block-id.result.id) (sym c.mark_of-marks.ensures) (marked_now c.loop-place.marks c.block-id.result.id)));
    }

pub returns : goal.returns
returns c =
    let n = length-map c.args.used.now block_at in
    let past = c.loop-place-test.false in
    (λ _. subst (λ (l : List Block). IsChain c.args.ids l) (take_all c.loop-place.place (map block_at c.args.used.now) (omega (arith, n, past))) c.loop-place.invariant.chain, λ _. search rules)

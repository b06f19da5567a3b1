-- One more handler was called.
use Rattle.std.proofs.Common.{◌≡◌, ◌<◌, ◌∙◌, length, map, get_or, ap, sym, subst, arith}
use Rattle.std.proofs.lemmas.List.{length-map}
use Rattle.notify.specs.declared.block.Block.{Block}
use Rattle.notify.specs.Blocks.{block_at}
use Rattle.notify.proofs.Answering.{answered_none, called, answered_more, answers_stopped, answers_all}
use Rattle.notify.proofs.Chains.{blank, there_too, same_block}
use Rattle.notify.proofs.handler.call_all.Goals as goal

pub loop-place-init : goal.loop-place-init
loop-place-init g c = answered_none _ _ _

pub bounds-handlers-block : goal.bounds-handlers-block
bounds-handlers-block g c =
    let there = there_too c.args.used.now c.loop-place.place c.loop-place-test.true in
    subst (λ (b : Block). b.id < length c.args.handlers.now) (sym (c.block-block.ensures ∙ sym (same_block c.args.used.now c.loop-place.place c.loop-place-test.true))) (c.requires c.loop-place.place blank there)

pub returns-then-last-ne0 : goal.returns-then-last-ne0
returns-then-last-ne0 g c =
    let there = there_too c.args.used.now c.loop-place.place c.loop-place-test.true in
    let id = ap (λ (b : Block). b.id) (c.block-block.ensures ∙ sym (same_block c.args.used.now c.loop-place.place c.loop-place-test.true)) in
    answers_stopped _ _ _ _ _ there c.loop-place.invariant _ (called _ c.args.handlers.now (map block_at c.args.used.now) c.loop-place.place c.index-handlers-block.result _ there (c.requires c.loop-place.place blank there)
    (c.index-handlers-block.is ∙ ap (λ n. get_or c.args.handlers.now n c.index-handlers-block.result) id) c.call_one-last.ensures) c.if-last-ne0.true

pub loop-place-preserved : goal.loop-place-preserved
loop-place-preserved g c =
    let there = there_too c.args.used.now c.loop-place.place c.loop-place-test.true in
    let id = ap (λ (b : Block). b.id) (c.block-block.ensures ∙ sym (same_block c.args.used.now c.loop-place.place c.loop-place-test.true)) in
    answered_more _ _ _ _ _ there c.loop-place.invariant _ (called _ c.args.handlers.now (map block_at c.args.used.now) c.loop-place.place c.index-handlers-block.result _ there (c.requires c.loop-place.place blank there)
    (c.index-handlers-block.is ∙ ap (λ n. get_or c.args.handlers.now n c.index-handlers-block.result) id) c.call_one-last.ensures) (λ stops. stops c.if-last-ne0.false)

pub returns : goal.returns
returns g c =
    let past = c.loop-place-test.false in
    let upto = c.loop-place.auto.place-end in
    let n = length-map c.args.used.now block_at in
    let whole : c.loop-place.place ≡ length c.args.used.now = omega (arith, past, upto) in
    answers_all _ _ _ _ _ _ (whole ∙ sym n) whole c.loop-place.invariant

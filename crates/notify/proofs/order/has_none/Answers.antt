-- No block that was looked at has the id.
use Rattle.std.proofs.Common.{rules, ◌≢◌, map, ap, ◌∙◌, sym, arith}
use Rattle.std.proofs.lemmas.List.{take_all, length-map}
use Rattle.std.proofs.lemmas.List.Elements.{All-more, All-same}
use Rattle.notify.specs.Blocks.{block_at}
use Rattle.notify.proofs.Chains.{blank, there_too, same_block}
use Rattle.notify.proofs.order.has_none.Goals as goal

pub returns-then-block-id : goal.returns-then-block-id
returns-then-block-id c =
    let used = c.args.used.now in let index = c.loop-word.word-index in let there = c.loop-word-test.true in (
      λ f. absurd (search rules),
      λ all. absurd (all index blank (there_too used index there) (ap (λ b. b.id) (same_block used index there ∙ sym c.block.ensures) ∙ c.if-block-id.true)),
    )

pub loop-word-preserved : goal.loop-word-preserved
loop-word-preserved c =
    let used = c.args.used.now in let index = c.loop-word.word-index in let there = c.loop-word-test.true in
    All-more (λ b. b.id ≢ c.args.id) (map block_at used) index blank (there_too used index there) c.loop-word.invariant
    (λ e. c.if-block-id.false (ap (λ b. b.id) (c.block.ensures ∙ sym (same_block used index there)) ∙ e))

pub returns : goal.returns
returns c = (λ _. All-same (λ b. b.id ≢ c.args.id) (map block_at c.args.used.now) _ (sym (take_all c.loop-word.word-index (map block_at c.args.used.now) (let n = length-map c.args.used.now block_at in let e = c.loop-word-test.false in omega (arith, n, e)))) c.loop-word.invariant, λ _. search rules)

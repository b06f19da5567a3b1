-- One more id is there.
use Rattle.std.proofs.Common.{[], sym, ap, ◌∙◌, map, slice_set, arith}
use Rattle.std.proofs.lemmas.List.{length-map, take_all}
use Rattle.notify.specs.Blocks.{padded, block_at}
use Rattle.notify.proofs.Chains.{blank, there_too, same_block}
use Rattle.notify.proofs.Lists.{map_stored}
use Rattle.notify.proofs.text.ids.Goals as goal

pub loop-place-preserved : goal.loop-place-preserved
loop-place-preserved c =
    let few = c.requires in
    let there = c.loop-place-test.true in
    let used = c.args.used.now in
    let n = length-map used block_at in
    ap (λ w. slice_set w c.loop-place.place c.block.result.id) c.loop-place.invariant
    ∙ map_stored 15 [] (λ b. b.id) (map block_at used) c.loop-place.place c.loop-place.place c.block.result.id blank (there_too used c.loop-place.place there) (omega (arith, few, n)) (omega arith) (ap (λ b. b.id) (c.block.ensures ∙ sym (same_block used c.loop-place.place there)))

pub returns : goal.returns
returns c =
    let past = c.loop-place-test.false in
    let n = length-map c.args.used.now block_at in
    c.loop-place.invariant ∙ ap (λ l. padded 15 (map (λ b. b.id) l)) (take_all c.loop-place.place (map block_at c.args.used.now) (omega (arith, past, n)))

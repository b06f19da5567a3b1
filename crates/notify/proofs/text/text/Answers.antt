-- One more word is there.
use Rattle.std.proofs.Common.{[], ◌∷◌, ap, ◌∙◌, length, ◌+◌, slice_set, arith}
use Rattle.notify.specs.Blocks.{word_of}
use Rattle.notify.proofs.Lists.{map_stored}
use Rattle.notify.proofs.text.text.Goals as goal

pub loop-place-preserved : goal.loop-place-preserved
loop-place-preserved c = let few = c.requires.few in ap (λ w. slice_set w (c.loop-place.place + 1) c.word.result) c.loop-place.invariant
    ∙ map_stored 16 (length c.args.blocks.now ∷ []) word_of c.args.blocks.now c.loop-place.place (c.loop-place.place + 1) _ _ c.loop-place-test.true (omega (arith, few)) (omega arith) c.word.ensures

-- They are the text of the blocks in them just where these are those of a chain and zeros stand behind.
use Rattle.std.proofs.Common.{rules, ◌≡◌, ◌≤◌, List, ℕ, length, map, refl, subst, slice_index_or}
use Rattle.notify.specs.Blocks.{block_at, IsChain}
use Rattle.notify.proofs.Texts.{used_cut, text_of_used, zeros_behind}
use Rattle.notify.proofs.text.is_text.Goals as goal

pub returns-then-is_chain : goal.returns-then-is_chain
returns-then-is_chain c =
    let words = c.args.words.now in
    let long : length words ≡ 16 = search rules in
    let few : slice_index_or words 0 0 ≤ 15 = search rules in (
      λ zeros. text_of_used words long few c.args.ids c.fits-words (subst (λ (l : List ℕ). IsChain c.args.ids (map block_at l)) (used_cut words long few _ refl) (c.is_chain.ensures.0 c.if-is_chain.true)) (c.ends_at.ensures.0 zeros),
      λ t. c.ends_at.ensures.1 (zeros_behind words long few c.args.ids t),
    )

use Rattle.std.proofs.Common.{◌∙◌}
use Rattle.sections.proofs.Sharing.{opens}
use Rattle.sections.proofs.Founding.{all_zero}
use Rattle.sections.proofs.making.new_table.Goals as goal

pub new-requires : goal.new-requires
new-requires g c = opens _ _ _ (c.as_slice.ensures.len ∙ (c.in_ok-words.ensures.len ∙ c.words_of.ensures)) (all_zero _ _ (c.as_slice.ensures.value ∙ c.in_ok-words.ensures.items_if_clones_equal (λ y e. e))) c.in_ok-keys.ensures c.requires.words

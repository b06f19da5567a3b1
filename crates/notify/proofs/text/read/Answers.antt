-- What is no text has no blocks.
use Rattle.std.proofs.Common.{rules, inr, refl}
use Rattle.notify.proofs.Texts.{read_none}
use Rattle.notify.proofs.text.read.Goals as goal

pub returns : goal.returns
returns c = inr (record {
  of_none = read_none c.args.ids c.args.words.now c.requires (λ t. let h = c.is_text.ensures.1 t in let f = c.if-is_text.false in absurd (search rules));
  none_read = refl;
})

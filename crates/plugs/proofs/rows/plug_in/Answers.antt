-- The words are the text of the rows in them, or that of no rows.
use Rattle.std.proofs.Common.{rules, ◌≡◌, true, false, [], length, refl, sym, ◌∙◌}
use Rattle.plugs.specs.Parts.{rows_in}
use Rattle.plugs.proofs.Texts.{reads_in, reads_nothing}
use Rattle.plugs.proofs.rows.plug_in.Goals as goal

pub returns-then-not-is_text : goal.returns-then-not-is_text
returns-then-not-is_text c = record {
  rows = [];
  read = reads_nothing c.args.words.now (λ t. let wrong : true ≡ false = sym (c.is_text.ensures.1 t) ∙ c.if-not-is_text.true in cc);
  plug_is = refl;
}

pub returns : goal.returns
returns c =
    let long : length c.args.words.now ≡ 16 = search rules in record {
      rows = rows_in c.args.words.now;
      read = reads_in c.args.words.now long c.fits-words (c.is_text.ensures.0 c.if-not-is_text.false);
      plug_is = c.look_in.ensures;
    }

-- The closure computes the test of a character.
use Rattle.std.proofs.Common.{◌||◌, rules}
use borrow.Author.Tests.{tests}
use Rattle.std.proofs.lemmas.Iterator.{YieldsList-from_slice}
use Rattle.std.proofs.lemmas.Iterator.Search.{all_from_yields_List}
use Rattle.std.proofs.lemmas.Bool.Decides.{nat_tests}
use Rattle.lines.specs.Lines.{is_digit, is_letter}
use Rattle.lines.proofs.word.is_name.Goals as goal

pub returns-then-word-le-LONGEST_NAME : goal.returns-then-word-le-LONGEST_NAME
returns-then-word-le-LONGEST_NAME c =
    let all = all_from_yields_List (λ x. is_letter x || is_digit x) _ _ c.all.result c.all.ensures.ran (YieldsList-from_slice c.args.word.now cc) (λ x b q k. search (rules, tests)) in
    search (rules, tests, nat_tests, all)

-- The closure computes the test of a digit.
use Rattle.std.proofs.Common.{rules}
use borrow.Author.Tests.{tests}
use Rattle.std.proofs.lemmas.Iterator.{YieldsList-from_slice}
use Rattle.std.proofs.lemmas.Iterator.Search.{all_from_yields_List}
use Rattle.std.proofs.lemmas.Bool.Decides.{nat_tests}
use Rattle.lines.specs.Lines.{is_digit}
use Rattle.lines.proofs.word.is_numeral.Goals as goal
use Rattle.lines.proofs.word.is_numeral.Goals.{then-word-gt1, else-word-gt1, then-not-is_empty, else-not-is_empty}

pub returns-then-not-has_leading_zero : goal.returns-then-not-has_leading_zero
returns-then-not-has_leading_zero c =
    let all = all_from_yields_List is_digit _ _ c.all.result c.all.ensures.ran (YieldsList-from_slice c.args.word.now cc) (λ x b q k. search (rules, tests)) in
    search (rules, tests, nat_tests, all)

-- The words are the pieces between spaces that aren't empty.
use Rattle.std.proofs.Common.{◌==◌, not, rules}
use borrow.Author.Tests.{tests}
use Rattle.std.proofs.lemmas.Iterator.Consumers.{YieldsList-at, YieldsList-from_filter, map_from_collect}
use Rattle.std.proofs.lemmas.Iterator.Splits.{YieldsList-from_slice_split}
use Rattle.lines.specs.Lines.{is_empty}
use Rattle.lines.proofs.word.words.Goals as goal

pub returns : goal.returns
returns g c =
    map_from_collect _ c.collect.ensures.ran
    (YieldsList-from_filter _ (λ w. not (is_empty w)) (YieldsList-at c.filter.ensures.source
    (YieldsList-from_slice_split _ (λ x. x == 32) c.args.line.now c.split.ensures.rest c.split.ensures.done c.split.ensures.closure (λ x b q k. search (rules, tests)))
    ) c.filter.ensures.closure (λ x b q k. search (rules, tests)))

-- Digits are text, and `parse` reads them.
use Rattle.std.proofs.Common.{◌≡◌, ap, ◌∙◌, rules}
use borrow.Author.Tests.{tests}
use Rattle.lines.specs.Lines.{number_of}
use Rattle.lines.proofs.Numerals.{IsUtf8-numeral, number_of-parse, refused}
use Rattle.lines.proofs.word.number.Goals as goal

pub returns-in_err-ok : goal.returns-in_err-ok
returns-in_err-ok c =
    let text = IsUtf8-numeral c.args.word.now (search (rules, tests)) in
    absurd (refused c.from_utf8.result _ _ _ (cc (c.in_err-ok.was)) c.from_utf8.ensures.cases text)

pub returns : goal.returns
returns c =
    let same : c.in_ok-ok.field-0.now ≡ c.args.word.now = search (rules, tests) in
    let read = number_of-parse c.in_ok-ok.field-0.now c.parse.result (search (rules, tests)) c.parse.ensures.value.0 in
    c.ok-2.ensures.value ∙ read ∙ ap number_of same

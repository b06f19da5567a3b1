-- Each of the sixteen words is that of the text.
use Rattle.std.proofs.Common.{length, ap, ◌∙◌, arith}
use Rattle.plugs.specs.declared.rows.Row.{Row}
use Rattle.plugs.specs.Tables.{text_of}
use Rattle.plugs.proofs.Texts.{text_from}
use Rattle.plugs.proofs.rows.Rows.text.Goals as goal

pub returns : goal.returns
returns c =
    let v = c.loop-place.invariant in
    let done = c.loop-place-test.false in
    let few = c.self.invariant.few in
    let rows = c.as_slice-rows.result.now in
    let is = c.as_slice-rows.ensures.value in
    text_from rows c.loop-place.words (let n = ap (length {A = Row}) is in omega (arith, n, few)) v.long v.count (λ i d lt. v.stored i d (omega (arith, lt, done))) (λ i le lt. v.zeros i (let e = c.loop-place.auto.place-end in omega (arith, le, e)) lt)
    ∙ ap text_of (is ∙ c.self.view_is)

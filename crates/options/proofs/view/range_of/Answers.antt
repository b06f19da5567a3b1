-- A range is refused where a part is no number, and named by the numbers of both.
use Rattle.std.proofs.Common.{rules, arith, ◌≡◌, Some, ◌∙◌, ap}
use Rattle.lines.specs.Lines.{number_of}
use Rattle.options.proofs.Ranges.{cut_once, range_of_parts, parts_of_range}
use Rattle.options.proofs.view.range_of.Goals as goal

pub returns-in_err-first : goal.returns-in_err-first
returns-in_err-first c =
    let cut = cut_once c.args.text _ _ c.split_once.ensures.cases c.unwrap_or.ensures in
    let none = c.in_err-first.ensures ∙ ap number_of c.as_bytes.ensures.value in
    rw c.from_residual.ensures (λ first last r. let is = (parts_of_range _ _ _ first last cut r).0 in absurd (cc))

pub returns-in_err-last : goal.returns-in_err-last
returns-in_err-last c =
    let cut = cut_once c.args.text _ _ c.split_once.ensures.cases c.unwrap_or.ensures in
    let none = c.in_err-last.ensures ∙ ap number_of c.as_bytes-2.ensures.value in
    rw c.from_residual-in_err-last.ensures (λ first last r. let is = (parts_of_range _ _ _ first last cut r).1 in absurd (cc))

pub returns-then-first-last : goal.returns-then-first-last
returns-then-first-last c = λ first last r.
    let cut = cut_once c.args.text _ _ c.split_once.ensures.cases c.unwrap_or.ensures in
    let (f, l) = parts_of_range _ _ _ first last cut r in
    let is_first : c.in_ok-first.first ≡ first = cc (c.in_ok-first.ensures, c.as_bytes.ensures.value) in
    let is_last : c.in_ok-last.last ≡ last = cc (c.in_ok-last.ensures, c.as_bytes-2.ensures.value) in
    omega (arith, c.then-first-last.either)

pub returns : goal.returns
returns c =
    let cut = cut_once c.args.text _ _ c.split_once.ensures.cases c.unwrap_or.ensures in
    let is_first : number_of c.unwrap_or.result.0.now ≡ Some c.in_ok-first.first = cc (c.in_ok-first.ensures, c.as_bytes.ensures.value) in
    let is_last : number_of c.unwrap_or.result.1.now ≡ Some c.in_ok-last.last = cc (c.in_ok-last.ensures, c.as_bytes-2.ensures.value) in
    let first : c.in_ok-ok.field-0 ≡ c.in_ok-first.first = search rules in
    let last : c.in_ok-ok-2.field-0 ≡ c.in_ok-last.last = search rules in
    rw (first, last) (range_of_parts _ _ _ _ _ cut is_first is_last (omega arith) (omega arith))

use Rattle.std.proofs.Common.{ℕ, List, Option, ap, sym, ◌∙◌, subst}
use Rattle.segs.specs.MarkedList.{Mark, assigned, awaited, number_given, count_next, EndsInNext}
use Rattle.calls.specs.Glossary.{Entry, last_number, wrapped}
use Rattle.calls.proofs.Wrapping.{none_wrapped, last_wrapped, count_next_wrapped, none_next, zero_unless}
use Rattle.calls.proofs.Listing.{entries_assigned}
use Rattle.calls.proofs.list.taking.assign_last.Goals as goal

pub unreachable-requires : goal.unreachable-requires
unreachable-requires g c = none_wrapped c.requires.0 (subst (λ (z : List (Option (Entry g.row.J.Denot) × Mark) × Option (Entry g.row.J.Denot)). EndsInNext z.0 z.1) (λ i. (c.requires.1 i, c.in_default-last.is i)) c.in-Some.ensures.last)

pub returns-in_default : goal.returns-in_default
returns-in_default g c es is = is ∙ ap wrapped (sym (none_next (number_given (last_number es) (awaited es)) es (sym (count_next_wrapped es) ∙ (ap count_next (sym is) ∙ zero_unless (count_next c.args.waiting.now.entries) c.in_default.ensures.variant.1))))

pub returns : goal.returns
returns g c es is =
    let last = last_wrapped es c.in-Some-last.last (subst (λ (z : List (Option (Entry g.row.J.Denot) × Mark) × Option (Entry g.row.J.Denot)). EndsInNext z.0 z.1) (λ i. (is i, c.in-Some-last.is i)) c.in-Some.ensures.last) in
    entries_assigned _ _ es (last_number es) is (c.assign.ensures.entries ∙ ap (λ (n : ℕ). assigned n c.args.waiting.now.entries) (c.number-number.ensures.value ∙ sym last))

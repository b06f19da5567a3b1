use Rattle.std.proofs.Common.{ℕ, min, List, ap, ◌∙◌}
use Rattle.segs.specs.MarkedList.{Mark, assigned, advanced, reached, count_done}
use Rattle.calls.specs.Glossary.{Entry, readied, wrapped}
use Rattle.calls.proofs.Wrapping.{count_done_wrapped}
use Rattle.calls.proofs.Listing.{entries_advanced, last_remarked, goes_out}
use Rattle.calls.proofs.list.taking.take_first.Goals as goal

pub assign_last-requires : goal.assign_last-requires
assign_last-requires g c = (advanced c.args.number c.requires.0, entries_advanced _ _ c.requires.0 c.args.number c.requires.1 c.advance.ensures.entries)

pub returns : goal.returns
returns g c es is =
    let adv : List (Entry _ × Mark) = advanced c.args.number es in
    let ready = c.assign_last.ensures adv (entries_advanced _ _ es c.args.number is c.advance.ensures.entries) ∙ ap (λ (n : ℕ). wrapped (assigned n adv)) (last_remarked (reached c.args.number) es) in
    goes_out c.args.number c.args.max es _ _ _ ready c.take_done.ensures.in_order (c.take_done.ensures.many ∙ ap (λ (n : ℕ). min (min c.args.max 8) n) (ap count_done ready ∙ count_done_wrapped (readied c.args.number es)))

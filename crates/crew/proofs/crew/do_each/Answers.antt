-- Each one's thread did its part.
use Rattle.std.proofs.Common.{◌<◌, List, length, get_or, sym, ap, ◌∙◌, subst}
use Rattle.crew.specs.Parts.{Changes}
use Rattle.crew.proofs.Rows.{all_behind}
use Rattle.crew.proofs.crew.do_each.Goals as goal

pub returns-clause-each : goal.returns-clause-each
returns-clause-each g c =
    let M = g.row.M.Denot in
    let items = c.args.members.now.items in
    let lent = c.as_mut_slice.ensures.value in
    all_behind (Changes g.F.Fn c.args.work.now) items c.for_each_mut.new.s c.args.members.now.len c.args.members.now.ok.0 (λ i m lt.
    let at = (c.for_each_mut.ensures i m (subst (λ (l : List M). i < length l) (sym lent) lt)).1 in
    subst (λ (v : M). Changes g.F.Fn c.args.work.now (get_or items i m) v) at.left
    (subst (λ (v : M). Changes g.F.Fn c.args.work.now v at.after_call.now) (at.argument_is ∙ ap (λ (l : List M). get_or l i m) lent) at.call))

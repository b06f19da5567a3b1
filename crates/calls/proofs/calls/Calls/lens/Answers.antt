use Rattle.std.proofs.Common.{◌<◌, length, ap, sym, ◌∙◌, subst}
use Rattle.calls.specs.Views.{CallsView, ListKey}
use Rattle.calls.proofs.Handing.{behind_lock, found_in_list, same_key_found}
use Rattle.calls.proofs.calls.Calls.lens.Goals as goal

pub lens-lens-requires : goal.lens-lens-requires
lens-lens-requires g c =
    let lt : c.args.processor < length c.self.inside.lists.items = subst (λ (k : CallsView). c.args.processor < k.processors) (sym c.self.view_is) c.requires.0 in
    let of = behind_lock {J = g.row.J.Denot} _ _ c.self.inside.lists.items c.args.self.now _ c.index-lock.result.now c.take-list.result.0 (sym c.self.view_is) c.self.invariant.locks lt c.index-lock.ensures c.take-list.ensures.value in
    c.requires.1 ∙ ap (λ (k : ListKey). k.tallies) (sym of)

pub returns : goal.returns
returns g c =
    let lt : c.args.processor < length c.self.inside.lists.items = subst (λ (k : CallsView). c.args.processor < k.processors) (sym c.self.view_is) c.requires.0 in
    let of = behind_lock {J = g.row.J.Denot} _ _ c.self.inside.lists.items c.args.self.now _ c.index-lock.result.now c.take-list.result.0 (sym c.self.view_is) c.self.invariant.locks lt c.index-lock.ensures c.take-list.ensures.value in
    record { found = found_in_list c.args.self.now c.args.processor c.take-list.result.0 c.args.seat.now c.lens-lens.result c.lens-lens.new.self _ of c.lens-lens.ensures.found }

pub put_back-requires-clause-value : goal.put_back-requires-clause-value
put_back-requires-clause-value g c = same_key_found _ _ c.lens-lens.result _ _ c.lens-lens.ensures.found ∙ c.take-list.ensures.value

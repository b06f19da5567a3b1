use Rattle.std.proofs.Common.{rules, ◌<◌, length, ap, sym, ◌∙◌, subst}
use Rattle.calls.specs.Views.{CallsView, ListKey}
use Rattle.calls.proofs.Handing.{behind_lock, same_key_taken, same_taken, batch_of_list, taken_in_list}
use Rattle.calls.proofs.calls.Calls.take_ready.Goals as goal

pub take-result-requires : goal.take-result-requires
take-result-requires g c =
    let lt : c.args.processor < length c.self.inside.lists.items = subst (λ (k : CallsView). c.args.processor < k.processors) (sym c.self.view_is) c.requires.there in
    let of = behind_lock {J = g.row.J.Denot} _ _ c.self.inside.lists.items c.args.self.now _ c.index-lock.result.now c.take-list.result.0 (sym c.self.view_is) c.self.invariant.locks lt c.index-lock.ensures c.take-list.ensures.value in
    (search rules, record { domain = c.requires.domain ∙ ap (λ (k : ListKey). k.domain) (sym of); tallies = c.requires.tallies ∙ ap (λ (k : ListKey). k.tallies) (sym of) })

pub put_back-requires-clause-value : goal.put_back-requires-clause-value
put_back-requires-clause-value g c = same_key_taken _ _ _ _ _ _ _ _ c.take-result.ensures.takes ∙ c.take-list.ensures.value

pub returns-clause-takes : goal.returns-clause-takes
returns-clause-takes g c =
    let lt : c.args.processor < length c.self.inside.lists.items = subst (λ (k : CallsView). c.args.processor < k.processors) (sym c.self.view_is) c.requires.there in
    let of = behind_lock {J = g.row.J.Denot} _ _ c.self.inside.lists.items c.args.self.now _ c.index-lock.result.now c.take-list.result.0 (sym c.self.view_is) c.self.invariant.locks lt c.index-lock.ensures c.take-list.ensures.value in
    taken_in_list c.args.self.now c.args.processor c.args.max c.take-list.result.0 c.args.cpu.now c.args.seat.now c.take-result.result c.take-result.new.self _ _ of c.take-result.ensures.takes

pub returns-clause-same : goal.returns-clause-same
returns-clause-same g c = same_taken c.args.max c.take-list.result.0 _ _ c.take-result.result c.take-result.new.self _ _ c.take-result.ensures.takes

pub returns-clause-batch : goal.returns-clause-batch
returns-clause-batch g c =
    let lt : c.args.processor < length c.self.inside.lists.items = subst (λ (k : CallsView). c.args.processor < k.processors) (sym c.self.view_is) c.requires.there in
    let of = behind_lock {J = g.row.J.Denot} _ _ c.self.inside.lists.items c.args.self.now _ c.index-lock.result.now c.take-list.result.0 (sym c.self.view_is) c.self.invariant.locks lt c.index-lock.ensures c.take-list.ensures.value in
    batch_of_list c.args.self.now c.args.processor c.args.max c.take-list.result.0 c.args.cpu.now c.args.seat.now c.take-result.result c.take-result.new.self c.take-result.new.cpu c.take-result.new.seat of c.take-result.ensures.takes

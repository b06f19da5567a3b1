use Rattle.std.proofs.Common.{rules, ◌≡◌, ◌<◌, length, ap, sym, ◌∙◌, subst}
use Rattle.calls.specs.Views.{CallsView, BatchView, ListKey}
use Rattle.calls.proofs.Handing.{behind_lock}
use Rattle.calls.proofs.calls.Calls.finish.Goals as goal

pub finish-requires : goal.finish-requires
finish-requires g c =
    let p : c.batch.inside.processor ≡ c.args.batch.processor = ap (λ (b : BatchView g.row.J.Denot). b.processor) c.batch.view_is in
    let there : c.batch.inside.processor < c.args.self.now.processors = subst (λ z. z < c.args.self.now.processors) (sym p) c.requires.there in
    let lt : c.batch.inside.processor < length c.self.inside.lists.items = subst (λ (k : CallsView). c.batch.inside.processor < k.processors) (sym c.self.view_is) there in
    let of = behind_lock {J = g.row.J.Denot} _ _ c.self.inside.lists.items c.args.self.now _ c.index-lock.result.now c.take-list.result.0 (sym c.self.view_is) c.self.invariant.locks lt c.index-lock.ensures c.take-list.ensures.value in
    let tallies = ap (λ (k : ListKey). k.tallies) (sym of) in
    (search rules, record { empty = c.requires.empty; tallies = c.requires.tallies ∙ tallies; of_tallies = c.requires.of_tallies ∙ tallies; processor = sym p ∙ ap (λ (k : ListKey). k.processor) (sym of) })

pub returns-clause-finishes : goal.returns-clause-finishes
returns-clause-finishes g c =
    let p : c.batch.inside.processor ≡ c.args.batch.processor = ap (λ (b : BatchView g.row.J.Denot). b.processor) c.batch.view_is in
    let there : c.batch.inside.processor < c.args.self.now.processors = subst (λ z. z < c.args.self.now.processors) (sym p) c.requires.there in
    let lt : c.batch.inside.processor < length c.self.inside.lists.items = subst (λ (k : CallsView). c.batch.inside.processor < k.processors) (sym c.self.view_is) there in
    let of = behind_lock {J = g.row.J.Denot} _ _ c.self.inside.lists.items c.args.self.now _ c.index-lock.result.now c.take-list.result.0 (sym c.self.view_is) c.self.invariant.locks lt c.index-lock.ensures c.take-list.ensures.value in record {
      list = c.take-list.result.0;
      of_calls = of ∙ (λ i. record { domain = c.args.self.now.domain; tallies = c.args.self.now.tallies; processor = p i });
      list' = c.finish.new.self;
      finishes = record { was = c.finish.ensures.was; is = c.finish.ensures.is; tally = c.finish.ensures.tally; was_out = c.finish.ensures.was_out; first = c.finish.ensures.first; list = c.finish.ensures.list };
    }

pub returns-clause-same : goal.returns-clause-same
returns-clause-same g c = c.finish.ensures.tally.same

use Rattle.std.proofs.Common.{ap, ◌∙◌, sym}
use Rattle.funnel.specs.Tree.{leaf_of}
use Rattle.funnel.proofs.Calling.{asks_from, asked_for}
use Rattle.funnel.proofs.seat.FunnelSeat.ask.Goals as goal

pub returns-clause-asks : goal.returns-clause-asks
returns-clause-asks g c =
    let v = c.self.invariant in
    let moved = c.climb.ensures.placed.seated ∙ (ap (λ t. t.shared.table_id) c.deref.ensures ∙ sym v.placed.seated) in
    rw (← c.self.view_is) (asks_from _ _ _ _ _ _ _ _ c.self.inside.seat.me.0 c.climb.new.seat.me.0 _ moved v.placed.shaped v.holder c.in-Processor.is (c.leaf_of-leaf.ensures ∙ ap (λ n. leaf_of n c.in-Processor.processor) v.nodes) c.get.ensures.value c.climb.ensures.climbs)

pub returns-clause-root : goal.returns-clause-root
returns-clause-root g c = asked_for _ _ _ _ (returns-clause-asks g c)

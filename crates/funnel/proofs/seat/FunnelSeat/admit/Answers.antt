use Rattle.std.proofs.Common.{ap, ◌∙◌, sym}
use Rattle.funnel.proofs.Calling.{accepts_call}
use Rattle.funnel.proofs.seat.FunnelSeat.admit.Goals as goal

pub returns-clause-accepts : goal.returns-clause-accepts
returns-clause-accepts g c =
    let v = c.other.invariant in
    let moved = c.admit.ensures.placed.seated ∙ (ap (λ t. t.shared.table_id) c.deref.ensures ∙ sym v.placed.seated) in
    rw (← c.self.view_is, ← c.other.view_is) (accepts_call _ _ _ _ _ c.self.inside.seat.me.0 c.admit.new.first.me.0 moved v.placed.shaped v.holder v.rests.idle c.admit.ensures.first)

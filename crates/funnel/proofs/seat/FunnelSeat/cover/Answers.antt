use Rattle.std.proofs.Common.{ap, ◌∙◌, sym}
use Rattle.funnel.proofs.Calling.{covers_call}
use Rattle.funnel.proofs.seat.FunnelSeat.cover.Goals as goal

pub returns-clause-covers : goal.returns-clause-covers
returns-clause-covers g c =
    let v = c.self.invariant in
    let moved = c.cover.ensures.placed.seated ∙ (ap (λ t. t.shared.table_id) c.deref.ensures ∙ sym v.placed.seated) in
    rw (← c.self.view_is, ← c.other.view_is) (covers_call _ _ _ _ _ c.other.inside.seat.me.0 c.cover.new.first.me.0 moved v.placed.shaped v.holder v.rests.idle c.cover.ensures.first)

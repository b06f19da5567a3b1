use Rattle.std.proofs.Common.{refl, ap, ◌∙◌, arith}
use Rattle.desk.specs.Glossary.{SeatView, number_of}
use Rattle.desk.proofs.Sitting.{lays_down_as, takes_in, gathered_so}
use Rattle.desk.proofs.desk.take_back.Goals as goal

pub load-requires : goal.load-requires
load-requires g c = let one = c.requires.keeper.1.wide in
    (ap (λ (v : SeatView g.row.T.Denot). v.desk) c.seat.view_is ∙ c.requires.desk, omega (arith, one), lays_down_as g.T.Token.domain c.args.top.now.key _ _ _ _ _ c.seat.inside.slot c.seat.invariant refl)

pub join_seat-requires : goal.join_seat-requires
join_seat-requires g c =
    let k = c.requires.keeper.1 in
    let one = k.wide in
    let l = c.load.ensures in
    let laid = l.2 _ c.seat.inside.slot (ap (λ m. m.0.role) c.seat.invariant) in (
      k.seated,
      l.0 ∙ (ap (λ (v : SeatView g.row.T.Denot). v.desk) c.seat.view_is ∙ c.requires.desk),
      ap (λ m. m.1) laid,
      omega (arith, one),
      takes_in g.T.Token.domain c.args.top.now.key _ _ _ _ c.requires.keeper.0 (number_of c.seat.inside.seat.me.0.role) c.seat.inside.slot (ap (λ m. m.0.role) k.me) (ap (λ m. m.0.role) laid),
    )

pub returns : goal.returns
returns g c =
    let j = c.join_seat.ensures in
    let laid = c.load.ensures.2 _ c.seat.inside.slot (ap (λ m. m.0.role) c.seat.invariant) in
    rw (← c.seat.view_is) (λ over h. record { wide = h.wide; seated = j.0 ∙ h.seated; me = gathered_so _ _ _ c.seat.inside.seat.me.0 over (number_of c.seat.inside.seat.me.0.role) c.seat.inside.slot h.me j.2 (ap (λ m. m.0) laid) })

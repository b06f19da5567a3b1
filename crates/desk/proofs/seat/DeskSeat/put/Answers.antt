use Rattle.std.proofs.Common.{ap, sym, ◌∙◌}
use Rattle.desk.specs.Views.{DeskView, SeatView}
use Rattle.desk.proofs.Trading.{alone, lies_now}
use Rattle.desk.proofs.seat.DeskSeat.put.Goals as goal

pub exchange-slot-requires : goal.exchange-slot-requires
exchange-slot-requires g c = record {
  table = (ap (λ (v : SeatView g.row.T.Denot). v.desk) c.self.view_is ∙ (c.requires.desk ∙ sym (ap (λ (d : DeskView). d.desk) c.desk.view_is)), c.desk.invariant);
  holds = c.self.invariant;
  domain = c.requires.domain ∙ sym (ap (λ (v : SeatView g.row.T.Denot). v.domain) c.self.view_is);
}

pub invariant_of-self : goal.invariant_of-self
invariant_of-self g c = c.exchange-slot.ensures.holds

pub returns : goal.returns
returns g c = rw (← c.self.view_is) (record {
  swaps = c.exchange-slot.ensures.swaps;
  lies = lies_now _ _ _ _ c.exchange-slot.ensures.swaps;
  domain = c.exchange-slot.ensures.domain;
  alone = alone _ _ _ _ c.exchange-slot.ensures.swaps;
})

-- The processors so far are dealt, in order.
use Rattle.std.proofs.Common.{◌≡◌, length}
use Rattle.std.specs.Arc.{arc_value}
use Rattle.funnel.specs.Glossary.{AreNew, IsFounder}
use Rattle.funnel.proofs.making.build.Given as goal

abbrev pub invariant-loop-processor : goal.invariant-loop-processor
invariant-loop-processor g l = record {
  founder : IsFounder l.shape (arc_value l.table).shared.key (arc_value l.table).shared.table_id l.processor l.seat;
  count : length l.seats.items ≡ l.processor;
  seats_new : AreNew (arc_value l.table).shared.table_id l.shape l.seats.items;
}

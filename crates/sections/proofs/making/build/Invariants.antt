-- The processors so far are dealt, in order.
use Rattle.std.proofs.Common.{◌≡◌, length}
use Rattle.std.specs.Arc.{arc_value}
use Rattle.sections.specs.Glossary.{AreNew, IsFounder}
use Rattle.sections.proofs.making.build.Given as goal

abbrev pub invariant-loop-processor : goal.invariant-loop-processor
invariant-loop-processor g l = record {
  founder : IsFounder l.bounds (arc_value l.table).shared.key (arc_value l.table).shared.table_id l.processor l.seat;
  count : length l.cpus.items ≡ l.processor;
  cpus_new : AreNew (arc_value l.table).shared.table_id l.bounds.processors l.bounds.sections l.cpus.items;
}

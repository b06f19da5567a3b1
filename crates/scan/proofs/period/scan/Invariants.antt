-- So far the counters of the processors before this one were loaded.
use Rattle.std.proofs.Common.{◌≡◌}
use Rattle.scan.specs.Glossary.{not_current, MovesThrough}
use Rattle.scan.specs.declared.place.Place.TheVariants.{Unlocks}
use Rattle.scan.proofs.period.scan.Given as goal

abbrev pub invariant-loop-processor : goal.invariant-loop-processor
invariant-loop-processor g l = record {
  through : MovesThrough l.once l.initial.seat (Unlocks l.first l.before) l.seat (Unlocks l.processor l.ended);
  same : l.seat.processors ≡ l.initial.seat.processors;
  index_is : l.index ≡ not_current l.seat.changes;
}

-- So far the counters of the processors before this one were loaded.
use Rattle.std.proofs.Common.{◌≡◌}
use Rattle.scan.specs.Glossary.{not_current, MovesThrough}
use Rattle.scan.specs.declared.place.Place.TheVariants.{Locks}
use Rattle.scan.proofs.period.finish_scan.Given as goal

abbrev pub invariant-loop-processor : goal.invariant-loop-processor
invariant-loop-processor g l = record {
  through : MovesThrough l.once l.initial.seat (Locks l.first l.ended l.before) l.seat (Locks l.processor l.ended l.begun);
  same : l.seat.processors ≡ l.initial.seat.processors;
  index_is : l.index ≡ not_current l.seat.changes;
}

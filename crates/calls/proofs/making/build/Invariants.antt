-- The processors so far are dealt, in order, and each has its lock. There is room for the others.
use Rattle.std.proofs.Common.{◌≡◌, ◌≤◌}
use Rattle.std.specs.Arc.{arc_value}
use Rattle.std.specs.Vec.{vec_len, vec_capacity}
use Rattle.calls.specs.Glossary.{AreOfDomain, IsDealer}
use Rattle.calls.proofs.Founding.{AreNewSoFar}
use Rattle.calls.proofs.making.build.Given as goal

abbrev pub invariant-loop-processor : goal.invariant-loop-processor
invariant-loop-processor g l = record {
  sized : (arc_value l.table).shared.key.processors ≡ l.processors;
  dealer : IsDealer (arc_value l.table).shared.key (arc_value l.table).shared.table_id l.processor l.dealer;
  spot : (l.spot.domain ≡ l.fn.engine.domain) × (l.spot.tallies ≡ (arc_value l.table).shared.table_id);
  engine : l.engine ≡ l.fn.engine;
  seats_count : vec_len l.seats ≡ l.processor;
  seats_room : l.processors ≤ vec_capacity l.seats;
  seats_new : AreNewSoFar l.fn.engine.domain (arc_value l.table).shared.table_id l.processors l.seats.items;
  locks_count : vec_len l.lists ≡ l.processor;
  locks_room : l.processors ≤ vec_capacity l.lists;
  locks : AreOfDomain l.fn.engine.domain (arc_value l.table).shared.table_id l.lists.items;
}

-- The counters of the processors so far were loaded, each into its place.
use Rattle.std.proofs.Common.{◌≡◌, length, take}
use Rattle.domain.proofs.Watchers.{LoadedSoFar}
use Rattle.domain.proofs.domain.loads.load_row.Given as goal

abbrev pub invariant-loop-processor : goal.invariant-loop-processor
invariant-loop-processor g l = record {
  so_far : LoadedSoFar l.counter l.index l.processor (take l.processor l.row) l.total l.initial.cpu l.cpu;
  len : length l.row ≡ length l.initial.row;
}

-- The finished words so far were loaded, in order, nothing else was done, and this is the sum of what was found.
use Rattle.std.proofs.Common.{◌≡◌, ℕ, ◌*◌, ◌<◌, ◌≤◌, List, length, sum}
use Rattle.std.specs.Prelude.{slice_index}
use Rattle.calls.specs.Glossary.{queued_in, finished_in, AreTakers, IsCountBetween, Loads, finished_loads}
use Rattle.calls.proofs.seat.CallSeat.total_finished.Given as goal

abbrev pub invariant-loop-processor : goal.invariant-loop-processor
invariant-loop-processor g l = record {
  found : List ℕ;
  loads : Loads (finished_loads 0 found) l.fn.self l.self;
  count : length found ≡ l.processor;
  each : (p : ℕ) → p < l.processor → IsCountBetween (finished_in p) (slice_index found p) l.fn.self.seen l.self.seen;
  within : (p : ℕ) → p < l.processor → slice_index found p ≤ queued_in p l.self.seen;
  takers : 0 < l.processor → AreTakers l.fn.self.processors l.self.seen;
  total_is : l.total ≡ sum found;
  small : l.total ≤ l.processor * 18446744073709551615;
}

-- The queued words so far were loaded, in order, nothing else was done, and this is the sum of what was found.
use Rattle.std.proofs.Common.{◌≡◌, ℕ, ◌*◌, ◌<◌, ◌≤◌, List, length, sum}
use Rattle.std.specs.Prelude.{slice_index}
use Rattle.calls.specs.Glossary.{most_calls, queued_in, IsCountBetween, Loads, queued_loads}
use Rattle.calls.proofs.seat.CallSeat.total_queued.Given as goal

abbrev pub invariant-loop-processor : goal.invariant-loop-processor
invariant-loop-processor g l = record {
  found : List ℕ;
  loads : Loads (queued_loads 0 found) l.fn.self l.self;
  count : length found ≡ l.processor;
  each : (p : ℕ) → p < l.processor → IsCountBetween (queued_in p) (slice_index found p) l.fn.self.seen l.self.seen;
  few : (p : ℕ) → p < l.processor → slice_index found p ≤ most_calls;
  total_is : l.total ≡ sum found;
  small : l.total ≤ l.processor * 18446744073709551615;
}

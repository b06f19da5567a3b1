-- The finished words so far were loaded, in order, each had reached its number, and nothing else was done.
use Rattle.std.proofs.Common.{◌≡◌, ℕ, ◌<◌, ◌≤◌, List, length}
use Rattle.std.specs.Prelude.{slice_index}
use Rattle.calls.specs.Glossary.{finished_in, Loads, finished_loads, number_for}
use Rattle.calls.proofs.calls.Calls.barrier_poll.Given as goal

abbrev pub invariant-loop-processor : goal.invariant-loop-processor
invariant-loop-processor g l = record {
  found : List ℕ;
  loads : Loads (finished_loads 0 found) l.fn.seat l.seat;
  count : length found ≡ l.processor;
  each : (p : ℕ) → p < l.processor → number_for p l.fn.ticket ≤ slice_index found p;
  reached : (p : ℕ) → p < l.processor → number_for p l.fn.ticket ≤ finished_in p l.seat.seen;
}

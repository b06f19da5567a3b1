-- The queued words so far were loaded, in order, and nothing else was done.
use Rattle.std.proofs.Common.{◌≡◌, ℕ, ◌<◌, length}
use Rattle.std.specs.Prelude.{slice_index}
use Rattle.std.specs.Vec.{vec_len, vec_capacity}
use Rattle.calls.specs.Glossary.{queued_in, IsCountBetween, Loads, queued_loads}
use Rattle.calls.proofs.calls.Calls.barrier_start.Given as goal

abbrev pub invariant-loop-processor : goal.invariant-loop-processor
invariant-loop-processor g l = record {
  loads : Loads (queued_loads 0 l.numbers.items) l.fn.seat l.seat;
  count : length l.numbers.items ≡ l.processor;
  len : vec_len l.numbers ≡ l.processor;
  room : vec_capacity l.numbers ≡ l.processors;
  each : (p : ℕ) → p < l.processor → IsCountBetween (queued_in p) (slice_index l.numbers.items p) l.fn.seat.seen l.seat.seen;
}

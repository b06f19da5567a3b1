-- The readers that have come have raced, and the others are started.
use Rattle.std.proofs.Common.{◌≡◌, ◌+◌, ◌≤◌, length}
use Rattle.race.proofs.Words.{vec_len, vec_capacity, into_iter_items, HasRead, EachAt, IsStarted, number_of}
use Rattle.race.proofs.Placing.{EachFrom}
use Rattle.race.proofs.workers.join_all.Given as goal

abbrev pub invariant-loop-started : goal.invariant-loop-started
invariant-loop-started g l = record {
  each : EachAt (HasRead l.course) l.readers.items;
  started : EachFrom (λ i s. IsStarted l.course s × (number_of s ≡ i)) (length l.readers.items) (into_iter_items l.started-iterator);
  count : vec_len l.readers + length (into_iter_items l.started-iterator) ≡ vec_len l.fn.all;
  room : vec_len l.fn.all ≤ vec_capacity l.readers;
}

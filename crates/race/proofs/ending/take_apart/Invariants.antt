-- What was taken apart so far and what is left make up the whole.
use Rattle.std.proofs.Common.{◌≡◌, ◌+◌, ◌<◌, ◌≤◌, ◌++◌, length, map}
use Rattle.race.proofs.Words.{vec_len, vec_capacity, into_iter_items, Reader, opened_by, closed_by}
use Rattle.race.proofs.ending.take_apart.Given as goal

abbrev pub invariant-loop-reader : goal.invariant-loop-reader
invariant-loop-reader l = record {
  cpus : l.sums.parts.cpus.items ++ map (λ (r : Reader). r.cpu) (into_iter_items l.reader-iterator) ≡ map (λ (r : Reader). r.cpu) l.fn.readers.items;
  seats : l.sums.parts.seats.items ++ map (λ (r : Reader). r.seat) (into_iter_items l.reader-iterator) ≡ map (λ (r : Reader). r.seat) l.fn.readers.items;
  opened : l.sums.opened + opened_by (into_iter_items l.reader-iterator) ≡ opened_by l.fn.readers.items;
  closed : l.sums.closed + closed_by (into_iter_items l.reader-iterator) ≡ closed_by l.fn.readers.items;
  many_cpus : vec_len l.sums.parts.cpus + length (into_iter_items l.reader-iterator) ≡ length l.fn.readers.items;
  many_seats : vec_len l.sums.parts.seats + length (into_iter_items l.reader-iterator) ≡ length l.fn.readers.items;
  room_for_cpus : length l.fn.readers.items < vec_capacity l.sums.parts.cpus;
  room_for_seats : length l.fn.readers.items ≤ vec_capacity l.sums.parts.seats;
}

-- What a crate above may cite of this one; the other files of proofs/ are its own.
-- Some of these are laws that are also promised by a function that anyone may call: `one_holds` by `holders_of_a_bay`, and `grows_by_one`, `grows_by_two`, `one_swap` and `one_turn` by `swaps_of_a_bay`.

-- the seats of a new desk are all of its seats; so is the one seat of a desk that has one, and so are two with different numbers. That is what `close` asks for
pub use Rattle.desk.proofs.Seating.{new_seats, sole_seat, two_seats}
-- what lies there behind one swap more is what that one left
pub use Rattle.desk.proofs.Turns.{lies_push}
-- a list of swaps is a beginning of itself, the empty one is a beginning of each, and what it is a beginning of may get one more
pub use Rattle.desk.proofs.Turns.{beginning_refl, beginning_empty, beginning_push}
-- a swap of another seat leaves a seat's swaps as they were, and one of its own stands last among them
pub use Rattle.desk.proofs.Turns.{swaps_of_other, swaps_of_own}
-- Bays

-- a seat's own last swap decides whether it holds, and no other one does
pub use Rattle.desk.proofs.Holders.{holds_own, holds_other}
-- each beginning of legal swaps is legal
pub use Rattle.desk.proofs.Holders.{legal_beginning}
-- the makers of legal swaps are seats of the bay
pub use Rattle.desk.proofs.Holders.{legal_makers}
-- the value lies there and no seat holds, or nothing does and just one seat holds
pub use Rattle.desk.proofs.Holders.{one_holds}
-- so while a seat holds nothing lies there, and while none does something lies there
pub use Rattle.desk.proofs.Holders.{holder_finds_nothing, nobody_finds_it}
-- behind a swap its seat holds if it took something, and what it left lies there
pub use Rattle.desk.proofs.Baying.{makes_holds, makes_lie}
-- a seat's swaps in two lists, one behind the other
pub use Rattle.desk.proofs.Growing.{swaps_of_append}
-- a seat whose swaps are the same in two lists has just these in all that lie between
pub use Rattle.desk.proofs.Growing.{own_between}
-- if all seats have just what was there before and one act, or two, nothing else was done
pub use Rattle.desk.proofs.Growing.{grows_by_one, grows_by_two}
-- a seat that swaps alone finds what lay there behind what it had seen
pub use Rattle.desk.proofs.BayTurns.{one_swap, one_turn}

-- The call that is announced.
use Rattle.std.specs.Prelude.{Some}
use Rattle.calls.proofs.seat.CallSeat.queue.Given as goal

abbrev pub ghosts-announce : goal.ghosts-announce
ghosts-announce g a = record { call = Some a.entry.now }

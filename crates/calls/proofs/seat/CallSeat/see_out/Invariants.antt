-- The processors of the tally words.
use Rattle.calls.proofs.seat.CallSeat.see_out.Given as goal

abbrev pub ghosts-see_batch_out : goal.ghosts-see_batch_out
ghosts-see_batch_out g a = record { count = a.top.now.key.processors }

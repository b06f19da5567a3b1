-- The processors of the tally words.
use Rattle.calls.proofs.seat.CallSeat.see_just.Given as goal

abbrev pub ghosts-see_told : goal.ghosts-see_told
ghosts-see_told g a = record { count = a.top.now.key.processors }

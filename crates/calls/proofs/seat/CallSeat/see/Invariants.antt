-- The processors of the tally words.
use Rattle.calls.proofs.seat.CallSeat.see.Given as goal

abbrev pub ghosts-see_all : goal.ghosts-see_all
ghosts-see_all g a = record { count = a.top.now.key.processors }

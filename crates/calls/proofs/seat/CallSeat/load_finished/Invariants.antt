-- The processors of the tally words.
use Rattle.calls.proofs.seat.CallSeat.load_finished.Given as goal

abbrev pub ghosts-count_finished : goal.ghosts-count_finished
ghosts-count_finished g a = record { count = a.top.now.key.processors }

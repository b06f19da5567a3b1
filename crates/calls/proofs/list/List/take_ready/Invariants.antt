-- For which number jobs are taken, and how many are wanted.
use Rattle.calls.proofs.list.List.take_ready.Given as goal

abbrev pub ghosts-take_out : goal.ghosts-take_out
ghosts-take_out g a = record { number = a.number; max = a.max }

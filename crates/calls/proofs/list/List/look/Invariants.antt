-- The processors of the tally words.
use Rattle.calls.proofs.list.List.look.Given as goal

abbrev pub ghosts-see_list : goal.ghosts-see_list
ghosts-see_list g a = record { count = a.top.now.key.processors }

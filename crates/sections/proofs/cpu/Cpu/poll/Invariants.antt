-- It is the cookie's number that is asked after.
use Rattle.sections.proofs.cpu.Cpu.poll.Given as goal

abbrev pub ghosts-ask_number : goal.ghosts-ask_number
ghosts-ask_number g a = record { cookie = a.cookie }

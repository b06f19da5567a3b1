-- It is this cookie that is asked after.
use Rattle.sections.proofs.cpu.Cpu.poll_number.Given as goal

abbrev pub ghosts-ask_number : goal.ghosts-ask_number
ghosts-ask_number g a = record { cookie = a.cookie }

-- It is the slot's cookie that is asked after.
use Rattle.sections.proofs.writer.Writer.reclaim_slot.Given as goal

abbrev pub ghosts-ask_number : goal.ghosts-ask_number
ghosts-ask_number g a = record { cookie = a.cookie }

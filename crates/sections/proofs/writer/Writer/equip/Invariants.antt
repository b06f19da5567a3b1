-- It is the key for this processor that is laid.
use Rattle.sections.proofs.writer.Writer.equip.Given as goal

abbrev pub ghosts-lay_key : goal.ghosts-lay_key
ghosts-lay_key g a = record { processor = a.processor }

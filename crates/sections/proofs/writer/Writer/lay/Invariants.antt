-- Parts are laid with the key for this processor.
use Rattle.sections.proofs.writer.Writer.lay.Given as goal

abbrev pub ghosts-lay_parts : goal.ghosts-lay_parts
ghosts-lay_parts g a = record { processor = a.processor }

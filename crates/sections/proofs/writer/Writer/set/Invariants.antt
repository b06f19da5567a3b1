-- The word is stored in a domain of so many processors as its table is told.
use Rattle.sections.proofs.writer.Writer.set.Given as goal

abbrev pub ghosts-store_in : goal.ghosts-store_in
ghosts-store_in g a = record { processors = a.table.now.shared.key.processors }

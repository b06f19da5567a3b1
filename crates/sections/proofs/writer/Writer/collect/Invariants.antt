-- The key for this processor is emptied, in a domain of so many processors as its table is told.
use Rattle.sections.proofs.writer.Writer.collect.Given as goal

abbrev pub ghosts-empty_key-N-AtProcessor : goal.ghosts-empty_key-N-AtProcessor
ghosts-empty_key-N-AtProcessor g a = record { processor = a.processor }

abbrev pub ghosts-empty_key-M-HasProcessors : goal.ghosts-empty_key-M-HasProcessors
ghosts-empty_key-M-HasProcessors g a = record { processors = a.top.now.key.processors }

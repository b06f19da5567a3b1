use Rattle.sections.proofs.Steps.{notes_here}
use Rattle.sections.proofs.Seating.{two_words}
use Rattle.sections.proofs.cpu.steps.note_number.Goals as goal

pub load-found-requires : goal.load-found-requires
load-found-requires c = (c.requires.placed.seated, two_words _ _ _ c.requires.placed.wide, notes_here _ _ _ _ c.requires.role.0 c.requires.placed.sized c.requires.role.1 c.requires.role.2)

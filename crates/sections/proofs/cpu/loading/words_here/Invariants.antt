-- The words before this place are loaded.
use Rattle.sections.proofs.Readings.{IsHere}
use Rattle.sections.proofs.cpu.loading.words_here.Given as goal

abbrev pub invariant-loop-place : goal.invariant-loop-place
invariant-loop-place g l = IsHere l.cell l.found l.place l.fn.seat l.words l.seat

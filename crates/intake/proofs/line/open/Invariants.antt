-- The line is with the key that was lent.
use Rattle.std.specs.Prelude.{Some}
use Rattle.intake.proofs.line.open.Given as goal

abbrev pub ghosts-open_of : goal.ghosts-open_of
ghosts-open_of g a = record { key = Some a.whose.now }

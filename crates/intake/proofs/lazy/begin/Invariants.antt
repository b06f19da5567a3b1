-- The line is with the key that its second end has to fit.
use Rattle.std.specs.Prelude.{Some}
use Rattle.intake.proofs.lazy.begin.Given as goal

abbrev pub ghosts-open_of : goal.ghosts-open_of
ghosts-open_of g a = record { key = Some a.whose.now.key }

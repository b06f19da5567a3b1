-- No slot before this one is blank.
use Rattle.std.proofs.Common.{◌≢◌, ℕ, ◌<◌}
use Rattle.sections.specs.Glossary.{standing_of}
use Rattle.sections.specs.declared.writer.Standing.TheVariants.{Blank}
use Rattle.sections.proofs.writer.Writer.first_blank.Given as goal

abbrev pub invariant-loop-slot : goal.invariant-loop-slot
invariant-loop-slot l = (x : ℕ) → x < l.slot → standing_of l.self x ≢ Blank

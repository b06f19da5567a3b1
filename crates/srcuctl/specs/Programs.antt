-- What the program writes for a whole script.
use Rattle.std.specs.Prelude.{◌≡◌, ℕ, Bool, List, []}
use Rattle.sections.specs.declared.limits.Limits.{Limits}
use Rattle.lines.specs.declared.error.RunError.{RunError}
use Rattle.lines.specs.declared.error.RunError.TheVariants as error
use Rattle.lines.specs.Lines.{lines_of}
use Rattle.session.specs.States.{State, nothing_yet}
use Rattle.session.specs.Scripts.{LineGives}
use Rattle.lines.specs.Runs.{IsRun, EndsEarly}

-- `given` is what a run of the lines of `taken` writes, from a state without domains and sets, and `faulty` is whether one of the lines is faulty. `gives` is which result the handler of an id may give to a value
abbrev pub Runs : (ℕ → ℕ → ℕ → Type 0) → Limits → List ℕ → List ℕ → Bool → Type 0
Runs gives limits taken given faulty = (after : State) × IsRun (LineGives gives limits) nothing_yet 1 (lines_of taken) given faulty after

-- `given` is what such a run has written when it ended with this error
abbrev pub RunsInPart : (ℕ → ℕ → ℕ → Type 0) → Limits → List ℕ → List ℕ → RunError → Type 0
RunsInPart gives limits taken given error = (after : State) × EndsEarly (LineGives gives limits) nothing_yet taken given error after

-- no line was run, for want of memory: nothing was read, and nothing is written
pub record HasNotBegun (taken given : List ℕ) (why : RunError) : Type 0 where
  pub none_taken : taken ≡ []
  pub none_given : given ≡ []
  pub cause : why ≡ error.Memory

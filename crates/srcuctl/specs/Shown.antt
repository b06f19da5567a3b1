-- What is shown of a run.
use Rattle.std.specs.Prelude.{◌≡◌, ℕ, Bool, true, false, List, [], ◌∷◌, ◌++◌, Option, Some, None, Result, Ok, Vec}
use Rattle.std.specs.Io.KnownBytes.{Appends}
use Rattle.std.specs.List.{FoldsTo}
use Rattle.lines.specs.declared.error.RunError.{RunError}
use Rattle.lines.specs.declared.error.RunError.TheVariants as run
use Rattle.srcuctl.specs.declared.showing.Unshown.{Unshown}
use Rattle.srcuctl.specs.declared.showing.Unshown.TheVariants as unshown

abbrev pub is_of_writing : RunError → Bool
is_of_writing run.Write = true
is_of_writing _ = false

-- whether writing failed, or who reads has left: any beginning may be written then
abbrev pub cannot_write : Unshown → Bool
cannot_write (unshown.Stopped error) = is_of_writing error
cannot_write unshown.Left = true
cannot_write _ = false

-- the bytes of parts of a text, one after the other
abbrev pub joined : {A : Type 0} → List (Vec ℕ A) → List ℕ
joined [] = []
joined (part ∷ rest) = part.items ++ joined rest

-- the calls of what makes a text gave some parts, one after the other, and these are written
pub record WritesParts {F E A : Type 0} (calls : F → Result (Option (Vec ℕ A)) E → F → Type 0) (first last : F) (old new : Option (List ℕ)) : Type 0 where
  pub parts : List (Vec ℕ A)
  pub given : FoldsTo (λ f part f'. calls f (Ok (Some part)) f') first parts last
  pub written : Appends old new (joined parts)

-- all parts are written: the next call gave none
pub record WritesAll {F E A : Type 0} (calls : F → Result (Option (Vec ℕ A)) E → F → Type 0) (first : F) (old new : Option (List ℕ)) : Type 0 where
  pub last : F
  pub parts : WritesParts calls first last old new
  pub over : F
  pub ended : calls last (Ok None) over

-- the first parts alone are written, since there is no memory for more
pub record WritesSome {F E A : Type 0} (calls : F → Result (Option (Vec ℕ A)) E → F → Type 0) (first : F) (error : Unshown) (old new : Option (List ℕ)) : Type 0 where
  pub wants_memory : error ≡ unshown.Stopped run.Memory
  pub last : F
  pub parts : WritesParts calls first last old new

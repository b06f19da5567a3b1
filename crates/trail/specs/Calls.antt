-- What the calls of a lock with a trail promise.
use Rattle.std.specs.Prelude.{◌≡◌, List, [], ◌∷◌, ◌++◌}

module _ {E : Type 0} where
  -- the second list goes on from the first
  abbrev pub IsEarlier : List E → List E → Type 0
  IsEarlier seen later = (since : List E) × (later ≡ since ++ seen)

  -- from each of these states, the newest first, the value may go to the next
  abbrev pub Follows : (E → E → Type 0) → E → List E → Type 0
  Follows goes newest [] = Unit {0}
  Follows goes newest (e ∷ before) = goes e newest × Follows goes e before

  -- a value that was found in the newest of these states may be left in this one
  abbrev pub IsLeft : (E → E → Type 0) → List E → E → Type 0
  IsLeft goes seen next = (found : E) × (before : List E) × (seen ≡ found ∷ before) × goes found next

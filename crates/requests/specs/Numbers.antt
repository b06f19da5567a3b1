-- Numbers of a range, and numbers with a sign.
use Rattle.std.specs.Prelude.{ℕ, ◌+◌, ◌^◌, ◌==◌, nat_lt, ℤ, pos, neg_ℤ, List, [], ◌∷◌, Option, Some, None, if◌then◌else◌}
use Rattle.std.specs.Option.{option_map}
use Rattle.lines.specs.Lines.{number_of}

abbrev pub below : ℕ → Option ℕ → Option ℕ
below end None = None
below end (Some n) = if nat_lt n end then Some n else None

-- the number that a word is, where it is below this one
abbrev pub number_below : ℕ → List ℕ → Option ℕ
number_below end w = below end (number_of w)

-- the id of one of the sixteen handlers
abbrev pub id_of : List ℕ → Option ℕ
id_of w = number_below 16 w

-- a key, or a plug
abbrev pub word32_of : List ℕ → Option ℕ
word32_of w = number_below (2 ^ 32) w

abbrev pub negated : Option ℕ → Option ℤ
negated None = None
negated (Some n) = if n == 0 then None else Some (neg_ℤ (pos n))

-- a number of 32 bits with a sign: a number, or `-` before one that is not 0
abbrev pub priority_of : List ℕ → Option ℤ
priority_of [] = None
priority_of (x ∷ digits) = if x == 45 then negated (number_below (2 ^ 31 + 1) digits) else option_map pos (number_below (2 ^ 31) (x ∷ digits))

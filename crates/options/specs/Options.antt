-- The options of the command line.
use Rattle.std.specs.Prelude.{◌≡◌, ℕ, ◌-◌, ◌^◌, List, Option, Some, None}
use Rattle.std.specs.Str.Parse.{digits_value, without_leading_plus}
use Rattle.clap.specs.Words.{IsUnsignedIn}

-- the limit that an option sets whose text is this: the number that the text is, where that is from 1 to the most. Without the option it is the most
abbrev pub SetsLimit : ℕ → Option (List ℕ) → ℕ → Type 0
SetsLimit most None limit = limit ≡ most
SetsLimit most (Some text) limit = IsUnsignedIn 1 most text → limit ≡ digits_value 10 (without_leading_plus text)

-- the number that an option sets whose text is this: the number that the text is, where that is below 2 ^ 64. It is 0 where the text is no such number, and without the option
abbrev pub SetsNumber : Option (List ℕ) → ℕ → Type 0
SetsNumber None number = number ≡ 0
SetsNumber (Some text) number = (IsUnsignedIn 0 (2 ^ 64 - 1) text → number ≡ digits_value 10 (without_leading_plus text))
    × ((¬ IsUnsignedIn 0 (2 ^ 64 - 1) text) → number ≡ 0)

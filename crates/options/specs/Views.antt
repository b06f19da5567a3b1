-- What the options of `annotate` choose.
use Rattle.std.specs.Prelude.{◌≡◌, ℕ, ◌<◌, ◌≤◌, ◌⊎◌, Bool, true, false, List, [], ◌∷◌, Option, Some, None, is_some, codes, map}
use Rattle.lines.specs.Lines.{is_name, number_of, pieces}
use Rattle.sections.specs.Limits.{most_processors}
use Rattle.options.specs.declared.view.Unfit.{Unfit}
use Rattle.options.specs.declared.view.Unfit.TheVariants as unfit

-- whether a number is as a script takes it, where there is one: without a sign and without leading zeros
abbrev pub is_plain : Option (List ℕ) → Bool
is_plain None = true
is_plain (Some text) = is_some (number_of text)

-- the processors that a text names: a number, or two with `-` between them, the first at most the last, each below 256
pub record NamesRange (text : List ℕ) (first last : ℕ) : Type 0 where
  pub numbers : ((number_of text ≡ Some first) × (first ≡ last)) ⊎ (map number_of (pieces 45 text) ≡ Some first ∷ (Some last ∷ []))
  pub rises : first ≤ last
  pub below : last < most_processors

abbrev pub NamesNone : List ℕ → Type 0
NamesNone text = (first last : ℕ) → ¬ NamesRange text first last

-- the processors that are shown: all of them without the option
abbrev pub Shows : Option (List ℕ) → ℕ → ℕ → Type 0
Shows None first last = (first ≡ 0) × (last ≡ 65535)
Shows (Some text) first last = NamesRange text first last

-- a value is refused: it is what its option says, and no number of a script, no name, or it names no processors
abbrev pub IsUnfit : (List ℕ → Option (List ℕ)) → Unfit → Type 0
IsUnfit text_of (unfit.Number option letter value) = (text_of option.now ≡ Some value.now) × (number_of value.now ≡ None)
IsUnfit text_of (unfit.Name value) = (text_of (codes "domain") ≡ Some value.now) × (is_name value.now ≡ false)
IsUnfit text_of (unfit.Range value) = (text_of (codes "processors") ≡ Some value.now) × NamesNone value.now

-- each number is as a script takes it, where there is one
pub record ArePlain (text_of : List ℕ → Option (List ℕ)) : Type 0 where
  pub sections : is_plain (text_of (codes "sections")) ≡ true
  pub periods : is_plain (text_of (codes "periods")) ≡ true
  pub readers : is_plain (text_of (codes "readers")) ≡ true
  pub rounds : is_plain (text_of (codes "rounds")) ≡ true

-- The text of a script: lines, words, names and numbers.
use Rattle.std.specs.Prelude.{ℕ, ◌+◌, ◌-◌, ◌*◌, ◌^◌, ◌==◌, nat_lt, nat_le, not, ◌&&◌, ◌||◌, Bool, List, [], ◌∷◌, Option, Some, None, length, slice_index, filter, fold, if◌then◌else◌}
use Rattle.std.specs.List.{list_all, slice_split}

abbrev pub is_empty : List ℕ → Bool
is_empty xs = length xs == 0

-- the pieces of a text between the separators: one more than there are separators
abbrev pub pieces : ℕ → List ℕ → List (List ℕ)
pieces separator text = slice_split (λ x. x == separator) text

abbrev pub without_last : List (List ℕ) → List (List ℕ)
without_last [] = []
without_last (line ∷ []) = []
without_last (line ∷ (next ∷ rest)) = line ∷ without_last (next ∷ rest)

-- the lines of a text that end with a line feed, which is no part of them
abbrev pub whole_lines_of : List ℕ → List (List ℕ)
whole_lines_of text = without_last (pieces 10 text)

abbrev pub without_empty_last : List (List ℕ) → List (List ℕ)
without_empty_last [] = []
without_empty_last (line ∷ []) = if is_empty line then [] else line ∷ []
without_empty_last (line ∷ (next ∷ rest)) = line ∷ without_empty_last (next ∷ rest)

-- all lines of a text: what stands behind the last line feed is a line too, unless it is empty
abbrev pub lines_of : List ℕ → List (List ℕ)
lines_of text = without_empty_last (pieces 10 text)

abbrev pub is_printable : ℕ → Bool
is_printable x = nat_le 32 x && nat_le x 126

-- a line has at most 200 bytes, each of them printable ASCII
abbrev pub is_text : List ℕ → Bool
is_text line = nat_le (length line) 200 && list_all is_printable line

-- a line as it is run: its bytes, or nothing where it is no text
abbrev pub text_of : List ℕ → Option (List ℕ)
text_of line = if is_text line then Some line else None

-- words are parted by one or more spaces
abbrev pub words_of : List ℕ → List (List ℕ)
words_of line = filter (λ w. not (is_empty w)) (pieces 32 line)

abbrev pub is_digit : ℕ → Bool
is_digit x = nat_le 48 x && nat_le x 57

abbrev pub is_letter : ℕ → Bool
is_letter x = nat_le 97 x && nat_le x 122

-- a name has 1 to 16 characters of a to z and 0 to 9
abbrev pub is_name : List ℕ → Bool
is_name w = not (is_empty w) && nat_le (length w) 16 && list_all (λ x. is_letter x || is_digit x) w

abbrev pub value_of : List ℕ → ℕ
value_of digits = fold (λ n x. n * 10 + (x - 48)) 0 digits

abbrev pub has_leading_zero : List ℕ → Bool
has_leading_zero w = nat_lt 1 (length w) && slice_index w 0 == 48

-- decimal digits, without a sign and without leading zeros
abbrev pub is_numeral : List ℕ → Bool
is_numeral w = not (is_empty w) && not (has_leading_zero w) && list_all is_digit w

-- the number that a word is: a numeral below 2 ^ 64
abbrev pub number_of : List ℕ → Option ℕ
number_of w = if is_numeral w && nat_lt (value_of w) (2 ^ 64) then Some (value_of w) else None

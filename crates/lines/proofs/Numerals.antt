-- Numbers that are read by `parse`.
use Rattle.std.proofs.Common.{◌≡◌, ◌<◌, ◌^◌, ◌*◌, ◌+◌, ◌-◌, ℕ, true, List, [], ◌∷◌, Some, None, Result, Ok, Err, length, get_or, fold, refl, sym, ap, ◌∙◌, lit<, zero, suc, rules, arith}
use borrow.Author.Tests.{tests}
use Rattle.std.specs.List.{list_all}
use Rattle.std.specs.Result.{MatchResult, OkIff, result_ok}
use Rattle.std.specs.Str.{IsUtf8}
use Rattle.std.specs.Str.Parse.{ParsesUnsigned}
use Rattle.std.proofs.lemmas.Str.Parse.{IsDigitsTest, IsNumeralModel, numerals_by_fold, parse_digits}
use Rattle.std.proofs.lemmas.Str.{IsUtf8-from_ascii}
use Rattle.lines.specs.Lines.{is_digit, is_numeral, number_of, value_of}

abbrev value_after : ℕ → List ℕ → ℕ
value_after n digits = fold (λ n x. n * 10 + (x - 48)) n digits

digits_tested : IsDigitsTest (λ ds. list_all is_digit ds ≡ true)
digits_tested = record { empty = refl; parts = λ c cs h. search (rules, tests); more = λ c cs r h. search (rules, tests) }

digits_by_value : IsNumeralModel (λ ds. list_all is_digit ds ≡ true) value_of
digits_by_value = numerals_by_fold _ digits_tested value_after (search rules)

pub all_digits : (w : List ℕ) → is_numeral w ≡ true → list_all is_digit w ≡ true
all_digits w h = search (rules, tests)

below_128 : (w : List ℕ) → list_all is_digit w ≡ true → (i : ℕ) → get_or w i 0 < 128
below_128 [] h i = lit< tt
below_128 (x ∷ w) h zero = let p = digits_tested.parts x w h in omega arith
below_128 (x ∷ w) h (suc i) = below_128 w (digits_tested.parts x w h).1 i

pub IsUtf8-numeral : (w : List ℕ) → is_numeral w ≡ true → IsUtf8 w
IsUtf8-numeral w h = IsUtf8-from_ascii w (below_128 w (all_digits w h))

number_of-fits : (w : List ℕ) → is_numeral w ≡ true → value_of w < 2 ^ 64 → number_of w ≡ Some (value_of w)
number_of-fits w h small = search (rules, tests)

number_of-large : (w : List ℕ) → ¬ (value_of w < 2 ^ 64) → number_of w ≡ None
number_of-large w large = search (rules, tests)

not_empty : (w : List ℕ) → is_numeral w ≡ true → 0 < length w
not_empty w h = search (rules, tests)

pub number_of-parse : {E : Type 0} (w : List ℕ) (r : Result ℕ E) → is_numeral w ≡ true → ParsesUnsigned 64 10 w r → result_ok r ≡ number_of w
number_of-parse w r h p = read w r h (parse_digits digits_by_value 64 w r p (all_digits w h)) where
  read : {E : Type 0} (w : List ℕ) (r : Result ℕ E) → is_numeral w ≡ true → OkIff r ((0 < length w) × (value_of w < 2 ^ 64)) (value_of w) → result_ok r ≡ number_of w
  read w (Ok n) h d = ap Some d.1 ∙ sym (number_of-fits w h d.0.1)
  read w (Err e) h d = sym (number_of-large w (λ small. d (not_empty w h, small)))

-- what fails where a fact doesn't hold fails nowhere else
pub refused : {T E : Type 0} (r : Result T E) (P : T → Type 0) (Q : Type 0) (R : E → Type 0) → result_ok r ≡ None → MatchResult r P (λ e. ¬ Q × R e) → ¬ Q
refused (Ok x) P Q R none m = absurd (cc)
refused (Err e) P Q R none m = m.0

-- A text, cut at its first `-`, and the numbers of its parts.
use Rattle.std.proofs.Common.{◌≡◌, ℕ, ◌<◌, ◌≤◌, ◌==◌, ◌⊎◌, inl, inr, true, false, List, [], ◌∷◌, Option, Some, None, Bor, MatchOption, length, map, refl, sym, ap, ◌∙◌, arith, rules, lit<}
use borrow.Author.Tests.{tests}
use Rattle.std.specs.List.{list_all, position_or_len, before_first, after_first, join_with_byte}
use Rattle.std.specs.Option.{unwrap_or}
use Rattle.std.proofs.lemmas.Bool.Decides.{nat_tests}
use Rattle.std.proofs.lemmas.List.Splits.{slice_split_none, slice_split_first, join_with_byte-slice_split, length-slice_split}
use Rattle.std.proofs.lemmas.List.Sums.{fails_before_first}
use Rattle.std.proofs.lemmas.Str.Pattern.{IsSplitOnceResult, split_once_first}
use Rattle.lines.specs.Lines.{is_digit, number_of, pieces}
use Rattle.sections.specs.Limits.{most_processors}
use Rattle.options.specs.Views.{NamesRange}

-- the parts before and after the first `-`. Of a text without one both are the text
abbrev pub IsCut : List ℕ → List ℕ → List ℕ → Type 0
IsCut text one other = ((one ≡ text) × (other ≡ text) × (pieces 45 text ≡ text ∷ [])) ⊎ (pieces 45 text ≡ one ∷ pieces 45 other)

cut_at : (text : Bor (List ℕ)) (r : Option (Bor (List ℕ) × Bor (List ℕ)))
    → MatchOption r (position_or_len (λ x. x == 45) text.now ≡ length text.now)
    (λ x. (position_or_len (λ x. x == 45) text.now < length text.now) × (x.0.now ≡ before_first (λ x. x == 45) text.now) × (x.1.now ≡ after_first (λ x. x == 45) text.now))
    → IsCut text.now (unwrap_or r (text, text)).0.now (unwrap_or r (text, text)).1.now
cut_at text None none = inl (refl, refl, slice_split_none (λ x. x == 45) text.now (λ k d l. fails_before_first (λ x. x == 45) text.now k d (omega arith)))
cut_at text (Some x) (some, one, other) = inr (rw (one, other) (slice_split_first (λ x. x == 45) text.now 0 some))

-- by the clauses of `split_once` and `unwrap_or`
pub cut_once : (text : Bor (List ℕ)) (parts : Bor (List ℕ) × Bor (List ℕ)) (r : Option (Bor (List ℕ) × Bor (List ℕ)))
    → IsSplitOnceResult 45 text.now r → parts ≡ unwrap_or r (text, text) → IsCut text.now parts.0.now parts.1.now
cut_once text parts r split e = rw e (cut_at text r (split_once_first 45 text.now r split (lit< tt)))

no_dash : (x : ℕ) → is_digit x ≡ true → (x == 45) ≡ false
no_dash x h = grind (arith, nat_tests)

digits_whole : (w : List ℕ) → list_all is_digit w ≡ true → pieces 45 w ≡ w ∷ []
digits_whole [] h = refl
digits_whole (x ∷ w) h =
    let first : is_digit x ≡ true = search (rules, tests) in
    let rest : list_all is_digit w ≡ true = search (rules, tests) in
    rw (no_dash x first, digits_whole w rest)

-- a number has no `-`
number_whole : (w : List ℕ) (n : ℕ) → number_of w ≡ Some n → pieces 45 w ≡ w ∷ []
number_whole w n h = digits_whole w (search (rules, tests))

pieces_some : (w : List ℕ) → 0 < length (pieces 45 w)
pieces_some w = omega (arith, length-slice_split (λ x. x == 45) w)

only_piece : (w piece : List ℕ) → pieces 45 w ≡ piece ∷ [] → piece ≡ w
only_piece w piece e = sym (ap (join_with_byte 45) e) ∙ join_with_byte-slice_split 45 w

one_number : (ps : List (List ℕ)) (n : ℕ) → map number_of ps ≡ Some n ∷ [] → (p : List ℕ) × (ps ≡ p ∷ []) × (number_of p ≡ Some n)
one_number [] n h = absurd (cc)
one_number (p ∷ []) n h = (p, refl, cc)
one_number (p ∷ (q ∷ ps)) n h = absurd (cc)

abbrev AreNumbers : List ℕ → ℕ → ℕ → Type 0
AreNumbers text first last = ((number_of text ≡ Some first) × (first ≡ last)) ⊎ (map number_of (pieces 45 text) ≡ Some first ∷ (Some last ∷ []))

pub range_of_parts : (text one other : List ℕ) (first last : ℕ) → IsCut text one other → number_of one ≡ Some first → number_of other ≡ Some last
    → first ≤ last → last < most_processors → NamesRange text first last
range_of_parts text one other first last cut f l rises below = record { numbers = named cut; rises = rises; below = below } where
  named : IsCut text one other → AreNumbers text first last
  named (inl (p, q, whole)) = let same : first ≡ last = cc in inl (cc, same)
  named (inr parted) = inr (rw (parted, number_whole other last l, f, l))

pub parts_of_range : (text one other : List ℕ) (first last : ℕ) → IsCut text one other → NamesRange text first last → (number_of one ≡ Some first) × (number_of other ≡ Some last)
parts_of_range text one other first last cut r = parts cut r.numbers where
  parts : IsCut text one other → AreNumbers text first last → (number_of one ≡ Some first) × (number_of other ≡ Some last)
  parts (inl (p, q, whole)) (inl (f, same)) = (ap number_of p ∙ f, ap number_of q ∙ f ∙ ap Some same)
  parts (inl (p, q, whole)) (inr two) = let e = rw whole at two in absurd (cc)
  parts (inr parted) (inl (f, same)) =
      let whole = number_whole text first f in
      let none : pieces 45 other ≡ [] = cc in
      let some = pieces_some other in
      absurd (omega (arith, ap length none))
  parts (inr parted) (inr two) =
      let e = rw parted at two in
      let (p, one_piece, l) = one_number (pieces 45 other) last (cc) in
      (cc, ap number_of (sym (only_piece other p one_piece)) ∙ l)

-- The pieces between line feeds, as a text grows.
use Rattle.std.proofs.Common.{◌≡◌, ◌≢◌, ℕ, ◌<◌, ◌==◌, Bool, true, false, cond, List, [], ◌∷◌, ◌++◌, length, refl, ap, ◌∙◌, rules, arith}
use borrow.Author.Tests.{tests}
use Rattle.std.specs.List.{onto_first}
use Rattle.std.proofs.lemmas.List.Splits.{length-slice_split}
use Rattle.lines.specs.Lines.{lines_of, pieces, whole_lines_of, without_empty_last, without_last}

pub pieces_some : (xs : List ℕ) → 0 < length (pieces 10 xs)
pieces_some xs = omega (arith, length-slice_split (λ x. x == 10) xs)

cut_first : (b : Bool) (x : ℕ) (ps qs : List (List ℕ)) → 0 < length ps → cond b ([] ∷ (ps ++ qs)) (onto_first x (ps ++ qs)) ≡ cond b ([] ∷ ps) (onto_first x ps) ++ qs
cut_first true x ps qs some = refl
cut_first false x [] qs some = absurd (omega arith)
cut_first false x (p ∷ ps) qs some = refl

-- a line feed parts two texts
pub pieces-append : (xs ys : List ℕ) → pieces 10 (xs ++ 10 ∷ ys) ≡ pieces 10 xs ++ pieces 10 ys
pieces-append [] ys = refl
pieces-append (x ∷ xs) ys =
    ap (λ ps. cond (x == 10) ([] ∷ ps) (onto_first x ps)) (pieces-append xs ys) ∙ cut_first (x == 10) x (pieces 10 xs) (pieces 10 ys) (pieces_some xs)

-- a byte more in the last piece
abbrev onto_last : ℕ → List (List ℕ) → List (List ℕ)
onto_last x [] = []
onto_last x (p ∷ []) = (p ++ x ∷ []) ∷ []
onto_last x (p ∷ (q ∷ ps)) = p ∷ onto_last x (q ∷ ps)

cut_last : (b : Bool) (x y : ℕ) (ps : List (List ℕ)) → 0 < length ps → cond b ([] ∷ onto_last x ps) (onto_first y (onto_last x ps)) ≡ onto_last x (cond b ([] ∷ ps) (onto_first y ps))
cut_last b x y [] some = absurd (omega arith)
cut_last true x y (p ∷ ps) some = refl
cut_last false x y (p ∷ []) some = refl
cut_last false x y (p ∷ (q ∷ ps)) some = refl

onto_last-pieces : (xs : List ℕ) (x : ℕ) → x ≢ 10 → pieces 10 (xs ++ x ∷ []) ≡ onto_last x (pieces 10 xs)
onto_last-pieces [] x other = search (rules, tests)
onto_last-pieces (y ∷ xs) x other =
    ap (λ ps. cond (y == 10) ([] ∷ ps) (onto_first y ps)) (onto_last-pieces xs x other) ∙ cut_last (y == 10) x y (pieces 10 xs) (pieces_some xs)

onto_last-append : (ran : List (List ℕ)) (front : List ℕ) (x : ℕ) → onto_last x (ran ++ front ∷ []) ≡ ran ++ (front ++ x ∷ []) ∷ []
onto_last-append [] front x = refl
onto_last-append (r ∷ []) front x = refl
onto_last-append (r ∷ (s ∷ ran)) front x = ap (λ ps. r ∷ ps) (onto_last-append (s ∷ ran) front x)

-- the last piece grows by a byte that is no line feed
pub pieces-push : (xs : List ℕ) (x : ℕ) (ran : List (List ℕ)) (front : List ℕ) → x ≢ 10 → pieces 10 xs ≡ ran ++ front ∷ []
    → pieces 10 (xs ++ x ∷ []) ≡ ran ++ (front ++ x ∷ []) ∷ []
pieces-push xs x ran front other e = onto_last-pieces xs x other ∙ ap (onto_last x) e ∙ onto_last-append ran front x

without_last-append : (ran : List (List ℕ)) (front : List ℕ) → without_last (ran ++ front ∷ []) ≡ ran
without_last-append [] front = refl
without_last-append (r ∷ []) front = refl
without_last-append (r ∷ (s ∷ ran)) front = ap (λ ps. r ∷ ps) (without_last-append (s ∷ ran) front)

pub whole_lines_of-pieces : (text : List ℕ) (ran : List (List ℕ)) (front : List ℕ) → pieces 10 text ≡ ran ++ front ∷ [] → whole_lines_of text ≡ ran
whole_lines_of-pieces text ran front e = ap without_last e ∙ without_last-append ran front

without_empty_last-append : (ran : List (List ℕ)) (front : List ℕ) → without_empty_last (ran ++ front ∷ []) ≡ ran ++ without_empty_last (front ∷ [])
without_empty_last-append [] front = refl
without_empty_last-append (r ∷ []) front = refl
without_empty_last-append (r ∷ (s ∷ ran)) front = ap (λ ps. r ∷ ps) (without_empty_last-append (s ∷ ran) front)

-- at the end of a text: its last piece is a line where it isn't empty
pub lines_of-pieces : (text : List ℕ) (ran : List (List ℕ)) (front : List ℕ) → pieces 10 text ≡ ran ++ front ∷ [] → lines_of text ≡ ran ++ without_empty_last (front ∷ [])
lines_of-pieces text ran front e = ap without_empty_last e ∙ without_empty_last-append ran front

without_empty_last-more : (ran : List (List ℕ)) (front : List ℕ) (ps : List (List ℕ)) → 0 < length ps → without_empty_last ((ran ++ front ∷ []) ++ ps) ≡ ran ++ front ∷ without_empty_last ps
without_empty_last-more ran front [] some = absurd (omega arith)
without_empty_last-more [] front (p ∷ ps) some = refl
without_empty_last-more (r ∷ []) front (p ∷ ps) some = refl
without_empty_last-more (r ∷ (s ∷ ran)) front (p ∷ ps) some = ap (λ qs. r ∷ qs) (without_empty_last-more (s ∷ ran) front (p ∷ ps) some)

-- before the end of a text: the piece before a line feed is a line
pub lines_of-before : (text rest : List ℕ) (ran : List (List ℕ)) (front : List ℕ) → pieces 10 text ≡ ran ++ front ∷ []
    → lines_of (text ++ 10 ∷ rest) ≡ ran ++ front ∷ lines_of rest
lines_of-before text rest ran front e =
    ap without_empty_last (pieces-append text rest ∙ ap (λ ps. ps ++ pieces 10 rest) e) ∙ without_empty_last-more ran front (pieces 10 rest) (pieces_some rest)

pub pieces-line : (text : List ℕ) (ran : List (List ℕ)) (front : List ℕ) → pieces 10 text ≡ ran ++ front ∷ [] → pieces 10 (text ++ 10 ∷ []) ≡ (ran ++ front ∷ []) ++ [] ∷ []
pieces-line text ran front e = pieces-append text [] ∙ ap (λ ps. ps ++ [] ∷ []) e

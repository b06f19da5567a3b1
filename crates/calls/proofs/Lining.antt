-- What one more deed makes of a processor's list.
use Rattle.std.proofs.Common.{◌≡◌, ◌≢◌, ℕ, zero, suc, ◌+◌, ◌-◌, ◌≤◌, min, Bool, if◌then◌else◌, List, [], ◌∷◌, ◌++◌, length, take, drop, refl, ap, ◌∙◌, eq-eqb, ne_eqb, arith}
use Rattle.std.proofs.Math.Nat.{min-le_right}
use Rattle.std.proofs.lemmas.List.{length-append, length-drop, length-take-le, take-append-le}
use Rattle.std.proofs.lemmas.List.Sums.{count_by-le-length}
use Rattle.segs.specs.MarkedList.{Mark, Next, is_done, remarked, advanced, reached, next_becomes, number_given, awaited, count_done}
use Rattle.calls.specs.Glossary.{Entry, Act, Deed, Line, no_calls, count_out, some_out, with_call, with_moved, all_moved, gathered, with_taken, with_none_out, last_number, readied, many_ready, next_line, line_from, line_in, deed}
use Rattle.calls.specs.declared.view.Act.TheVariants.{Queue, Take, Finish}

pub count_some_out : (n : ℕ) → count_out (some_out n) ≡ n
count_some_out zero = refl
count_some_out (suc n) = refl

module _ {J : Type 0} where
  line_from_push : (p : ℕ) (k : Line J) (l : List (Deed J)) (d : Deed J) → line_from p k (l ++ d ∷ []) ≡ next_line p d.by d.act (line_from p k l)
  line_from_push p k [] d = refl
  line_from_push p k (x ∷ xs) d = line_from_push p (next_line p x.by x.act k) xs d

  -- what the last deed made of it
  pub line_push : (p : ℕ) (l : List (Deed J)) (c : ℕ) (act : Act J) → line_in p (l ++ deed c act ∷ []) ≡ next_line p c act (line_in p l)
  line_push p l c act = line_from_push p no_calls l (deed c act)

  abbrev either : Line J → Line J → Bool → Line J
  either a b here = if here then a else b

  pub called_here : (p : ℕ) (e : Entry J) (l : List (Deed J)) → line_in p (l ++ deed p (Queue e) ∷ []) ≡ with_call e (line_in p l)
  called_here p e l = line_push p l p (Queue e) ∙ ap (either (with_call e (line_in p l)) (line_in p l)) (eq-eqb p p refl)

  pub called_else : (p q : ℕ) (e : Entry J) (l : List (Deed J)) → q ≢ p → line_in p (l ++ deed q (Queue e) ∷ []) ≡ line_in p l
  called_else p q e l ne = line_push p l q (Queue e) ∙ ap (either (with_call e (line_in p l)) (line_in p l)) (ne_eqb q p ne)

  pub taken_here : (p number max moved : ℕ) (l : List (Deed J)) (c : ℕ) → line_in p (l ++ deed c (Take p number max moved) ∷ []) ≡ with_taken number max (gathered moved (line_in p l))
  taken_here p number max moved l c = line_push p l c (Take p number max moved) ∙ ap (either (with_taken number max (gathered moved (line_in p l))) (line_in p l)) (eq-eqb p p refl)

  pub taken_else : (p q number max moved : ℕ) (l : List (Deed J)) (c : ℕ) → q ≢ p → line_in p (l ++ deed c (Take q number max moved) ∷ []) ≡ line_in p l
  taken_else p q number max moved l c ne = line_push p l c (Take q number max moved) ∙ ap (either (with_taken number max (gathered moved (line_in p l))) (line_in p l)) (ne_eqb q p ne)

  pub finish_here : (p n : ℕ) (l : List (Deed J)) (c : ℕ) → line_in p (l ++ deed c (Finish p n) ∷ []) ≡ with_none_out (line_in p l)
  finish_here p n l c = line_push p l c (Finish p n) ∙ ap (either (with_none_out (line_in p l)) (line_in p l)) (eq-eqb p p refl)

  pub finish_else : (p q n : ℕ) (l : List (Deed J)) (c : ℕ) → q ≢ p → line_in p (l ++ deed c (Finish q n) ∷ []) ≡ line_in p l
  finish_else p q n l c ne = line_push p l c (Finish q n) ∙ ap (either (with_none_out (line_in p l)) (line_in p l)) (ne_eqb q p ne)

  -- How long it is

  pub length_remarked : (change : Mark → Mark) (l : List (Entry J × Mark)) → length (remarked change l) ≡ length l
  length_remarked change [] = refl
  length_remarked change (x ∷ xs) = ap suc (length_remarked change xs)

  pub length_pushed : (l : List (Entry J × Mark)) (e : Entry J × Mark) → length (l ++ e ∷ []) ≡ length l + 1
  length_pushed l e = length-append l (e ∷ [])

  -- a call makes what came in longer by one
  pub called_long : (e : Entry J) (l : Line J) → length (with_call e l).coming ≡ length l.coming + 1
  called_long e l = length-append l.coming (e ∷ [])

  pub length_moved : (e : Entry J) (w : List (Entry J × Mark)) → length (with_moved e w) ≡ length w + 1
  length_moved e w = length_remarked (next_becomes (number_given e.cookie.number (awaited (w ++ (e, Next) ∷ [])))) (w ++ (e, Next) ∷ []) ∙ length_pushed w (e, Next)

  pub length_all_moved : (es : List (Entry J)) (w : List (Entry J × Mark)) → length (all_moved es w) ≡ length w + length es
  length_all_moved [] w = omega arith
  length_all_moved (e ∷ es) w = let rest = length_all_moved es (with_moved e w) in let one = length_moved e w in omega (arith, rest, one)

  -- what is moved makes what waits longer, and what came in shorter
  pub gathered_long : (n : ℕ) (l : Line J) → n ≤ length l.coming → length (gathered n l).waiting ≡ length l.waiting + n
  gathered_long n l few = length_all_moved (take n l.coming) l.waiting ∙ ap (λ k. length l.waiting + k) (length-take-le n l.coming few)

  pub gathered_left : (n : ℕ) (l : Line J) → length (gathered n l).coming ≡ length l.coming - n
  gathered_left n l = length-drop n l.coming

  -- the last one is moved behind the others
  pub all_moved_last : (es : List (Entry J)) (e : Entry J) (w : List (Entry J × Mark)) → all_moved (es ++ e ∷ []) w ≡ with_moved e (all_moved es w)
  all_moved_last [] e w = refl
  all_moved_last (x ∷ xs) e w = all_moved_last xs e (with_moved x w)

  pub gathered_next : (n : ℕ) (l : Line J) (e : Entry J) → take (n + 1) l.coming ≡ take n l.coming ++ e ∷ [] → (gathered (n + 1) l).waiting ≡ with_moved e (gathered n l).waiting
  gathered_next n l e next = ap (λ es. all_moved es l.waiting) next ∙ all_moved_last (take n l.coming) e l.waiting

  -- a call that comes in leaves those that were moved
  pub gathered_called : (n : ℕ) (e : Entry J) (l : Line J) → n ≤ length l.coming → (gathered n (with_call e l)).waiting ≡ (gathered n l).waiting
  gathered_called n e l few = ap (λ es. all_moved es l.waiting) (take-append-le n l.coming (e ∷ []) few)

  pub length_readied : (number : ℕ) (l : List (Entry J × Mark)) → length (readied number l) ≡ length l
  length_readied number l = length_remarked (next_becomes (number_given (last_number l) (awaited (advanced number l)))) (advanced number l) ∙ length_remarked (reached number) l

  pub few_ready : (max : ℕ) (l : List (Entry J × Mark)) → many_ready max l ≤ length l
  few_ready max l = let a = min-le_right (min max 8) (count_done l) in let b = count_by-le-length (λ (e : Entry J × Mark). is_done e.1) l in omega (arith, a, b)

  -- what was taken was in it
  pub taken_long : (number max : ℕ) (l : Line J) → count_out (with_taken number max l).out + length (with_taken number max l).waiting ≡ length l.waiting
  taken_long number max l =
      let ready : List (Entry J × Mark) = readied number l.waiting in
      let n : ℕ = many_ready max ready in
      let few : n ≤ length ready = few_ready max ready in
      let out : count_out (some_out n) ≡ n = count_some_out n in
      let left : length (drop n ready) ≡ length ready - n = length-drop n ready in
      let same : length ready ≡ length l.waiting = length_readied number l.waiting in
      omega (arith, few, out, left, same)

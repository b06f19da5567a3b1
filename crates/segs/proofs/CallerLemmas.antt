-- What a crate above may cite of this one; the other files of proofs/ are its own. They speak of lists whose entries all have one mark.
use Rattle.std.proofs.Common.{◌≡◌, ℕ, ◌+◌, List, [], ◌∷◌, ◌++◌, length, refl, sym, ap, ◌∙◌, arith}
use Rattle.std.proofs.lemmas.Bool.{le-leb}
use Rattle.segs.specs.MarkedList.{Mark, Done, At, Next, marked, awaited, count_done, is_done, number_given, next_becomes, reached, assigned, advanced, remarked}
use Rattle.segs.proofs.Lists.{marked-append, remarked_marked, remarked-append, awaited-next, awaited_from-same, awaited_from-next, count_marked}

module _ {T : Type 0} where
  -- one entry more, with the same mark
  pub marked_push : (mark : Mark) (xs : List T) (x : T) → marked mark xs ++ (x, mark) ∷ [] ≡ marked mark (xs ++ x ∷ [])
  marked_push mark xs x = sym (marked-append mark xs (x ∷ []))

  -- all that are next get the number
  pub assigned_next : (s : ℕ) (xs : List T) → assigned s (marked Next xs) ≡ marked (At s) xs
  assigned_next s xs = rw (awaited-next xs) (remarked_marked (next_becomes (At s)) Next xs)

  joined : (s : ℕ) (xs : List T) (x : T) → number_given s (awaited (marked (At s) xs ++ (x, Next) ∷ [])) ≡ At s → assigned s (marked (At s) xs ++ (x, Next) ∷ []) ≡ marked (At s) (xs ++ x ∷ [])
  joined s xs x given = ap (λ (g : Mark). remarked (next_becomes g) (marked (At s) xs ++ (x, Next) ∷ [])) given
      ∙ (remarked-append (next_becomes (At s)) (marked (At s) xs) ((x, Next) ∷ []) ∙ (ap (λ l. l ++ (x, At s) ∷ []) (remarked_marked (next_becomes (At s)) (At s) xs) ∙ marked_push (At s) xs x))

  -- one that is next joins those that wait for the same number
  pub assigned_last : (s : ℕ) (xs : List T) (x : T) → assigned s (marked (At s) xs ++ (x, Next) ∷ []) ≡ marked (At s) (xs ++ x ∷ [])
  assigned_last s [] x = refl
  assigned_last s (y ∷ ys) x = joined s (y ∷ ys) x (ap (number_given s) (awaited_from-same s ys ((x, Next) ∷ []) ∙ awaited_from-next s (x ∷ [])) ∙ same)
    where
      same : number_given s (s ∷ []) ≡ At s
      same = let due = le-leb s s (omega arith) in rw due refl

  -- all that wait for the number are done
  pub advanced_at : (s : ℕ) (xs : List T) → advanced s (marked (At s) xs) ≡ marked Done xs
  advanced_at s xs = let due = le-leb s s (omega arith) in rw (remarked_marked (reached s) (At s) xs, due) refl

  -- so many are done
  pub count_done_marked : (xs : List T) → count_done (marked Done xs) ≡ length xs
  count_done_marked xs = count_marked is_done Done xs

  -- where all are done, and the first of them leave, the others stay
  pub done_left : (xs ys : List T) (rest : List (T × Mark)) → marked Done xs ≡ marked Done ys ++ rest → (zs : List T) × (rest ≡ marked Done zs) × (length xs ≡ length ys + length zs)
  done_left xs [] rest h = (xs, sym h, omega arith)
  done_left [] (y ∷ ys) rest h = absurd cc
  done_left (x ∷ xs) (y ∷ ys) rest h = let tail : marked Done xs ≡ marked Done ys ++ rest = cc in let r = done_left xs ys rest tail in let more = r.2 in (r.0, r.1, omega (arith, more))

-- What holds at each place of a list, when its last item leaves or one more comes.
use Rattle.std.proofs.Common.{◌≡◌, ℕ, suc, ◌+◌, ◌<◌, List, [], ◌∷◌, ◌++◌, length, get_or, sym, subst, arith, length-append}
use Rattle.race.proofs.Words.{get_or_append_left, get_or-append_seam, dite, ℕ_discrete}

module _ {A : Type 0} (P : ℕ → A → Type 0) where
  abbrev pub Each : List A → Type 0
  Each xs = (i : ℕ) (d : A) → i < length xs → P i (get_or xs i d)

  longer : (xs : List A) (x : A) → length (xs ++ x ∷ []) ≡ length xs + 1
  longer xs x = length-append xs (x ∷ [])

  front : (ys : List A) (x : A) → Each (ys ++ x ∷ []) → Each ys
  front ys x h i d lt = subst (P i) (get_or_append_left ys (x ∷ []) d i lt) (h i d (let n = longer ys x in omega (arith, lt, n)))

  last : (ys : List A) (x : A) → Each (ys ++ x ∷ []) → P (length ys) x
  last ys x h = subst (P (length ys)) (get_or-append_seam ys x [] x) (h (length ys) x (let n = longer ys x in omega (arith, n)))

  -- the last item left
  pub each_popped : (xs ys : List A) (x : A) → xs ≡ ys ++ x ∷ [] → Each xs → Each ys
  each_popped xs ys x is h = front ys x (subst Each is h)

  pub last_popped : (xs ys : List A) (x : A) → xs ≡ ys ++ x ∷ [] → Each xs → P (length ys) x
  last_popped xs ys x is h = last ys x (subst Each is h)

  one_more : (xs : List A) (x : A) → Each xs → P (length xs) x → Each (xs ++ x ∷ [])
  one_more xs x h new i d lt = dite (ℕ_discrete i (length xs))
      (λ e. subst (λ k. P k (get_or (xs ++ x ∷ []) k d)) (sym e) (subst (P (length xs)) (sym (get_or-append_seam xs x [] d)) new))
      (λ ne. let inside : i < length xs = (let n = longer xs x in omega (arith, lt, n, ne)) in subst (P i) (sym (get_or_append_left xs (x ∷ []) d i inside)) (h i d inside))

  -- one more came
  pub each_pushed : (xs ys : List A) (x : A) → ys ≡ xs ++ x ∷ [] → Each xs → P (length xs) x → Each ys
  each_pushed xs ys x is h new = subst Each (sym is) (one_more xs x h new)

  pub each_none : (xs : List A) → length xs ≡ 0 → Each xs
  each_none xs none i d lt = absurd (omega (arith, none, lt))

  -- what holds at each place of a list that begins at this one
  abbrev pub EachFrom : ℕ → List A → Type 0
  EachFrom k xs = (i : ℕ) (d : A) → i < length xs → P (k + i) (get_or xs i d)

  pub from_first : (k : ℕ) (xs : List A) → k ≡ 0 → Each xs → EachFrom k xs
  from_first k xs none h i d lt = subst (λ j. P j (get_or xs i d)) (omega (arith, none)) (h i d lt)

  pub first_of : (k : ℕ) (x : A) (xs : List A) → EachFrom k (x ∷ xs) → P k x
  first_of k x xs h = subst (λ j. P j x) (omega arith) (h 0 x (omega arith))

  pub rest_of : (k j : ℕ) (x : A) (xs : List A) → j ≡ k + 1 → EachFrom k (x ∷ xs) → EachFrom j xs
  rest_of k j x xs next h i d lt = subst (λ n. P n (get_or xs i d)) (omega (arith, next)) (h (suc i) d (omega (arith, lt)))

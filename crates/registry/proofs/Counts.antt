-- How often a number is there.
use Rattle.std.proofs.Common.{◌≡◌, ◌==◌, Bool, ℕ, suc, ◌<◌, ◌≤◌, List, [], ◌∷◌, Option, Some, None, length, take, get_or, set, cond, All, refl, sym, ap, ◌∙◌, arith, ⊎_elim}
use Rattle.std.specs.List.{count_by, sum_by}
use Rattle.std.specs.Option.{is_some}
use Rattle.std.proofs.lemmas.Option.{none-some}
use Rattle.std.proofs.lemmas.Bool.{cases_eq, cases_lt, eq-eqb, ne_eqb}
use Rattle.std.proofs.lemmas.List.{get_or-take, get_or_past, length-take-le}
use Rattle.std.proofs.lemmas.List.Elements.{All-head, All-tail}
use Rattle.std.proofs.lemmas.List.Sums.{get_or-le-sum_by, sum_by-cons, sum_by-set, sum_by_more_le}
use Rattle.boxes.specs.Boxes.{Stored}
use Rattle.registry.specs.declared.index.Entry.{Entry}
use Rattle.registry.specs.Names.{times_shown}
use Rattle.registry.specs.Registry.{parts_in}

abbrev pub bit : Bool → ℕ
bit b = cond b 1 0

module _ {X : Type 0} (number : X → ℕ) (n : ℕ) where
  pub is_one : (x : X) → number x ≡ n → bit (number x == n) ≡ 1
  is_one x e = ap bit (eq-eqb (number x) n e)

  pub is_none : (x : X) → (number x ≡ n → ⊥) → bit (number x == n) ≡ 0
  is_none x e = ap bit (ne_eqb (number x) n e)

  pub alone_one : (x : X) → number x ≡ n → count_by (λ x. number x == n) (x ∷ []) ≡ 1
  alone_one x e = let a = sum_by-cons (λ x. bit (number x == n)) x [] in let b = is_one x e in omega (arith, a, b)

  pub alone_none : (x : X) → (number x ≡ n → ⊥) → count_by (λ x. number x == n) (x ∷ []) ≡ 0
  alone_none x e = let a = sum_by-cons (λ x. bit (number x == n)) x [] in let b = is_none x e in omega (arith, a, b)

  pub at_one : (xs : List X) (i : ℕ) (d : X) → i < length xs → number (get_or xs i d) ≡ n → 1 ≤ count_by (λ x. number x == n) xs
  at_one xs i d l e = let a = get_or-le-sum_by (λ x. bit (number x == n)) xs i d l in let b = is_one (get_or xs i d) e in omega (arith, a, b)

  -- two places that have it
  pub at_both : (xs : List X) (i k : ℕ) (d : X) → i < k → k < length xs → number (get_or xs i d) ≡ n → number (get_or xs k d) ≡ n → 2 ≤ count_by (λ x. number x == n) xs
  at_both xs i k d lt l e f =
      let more = sum_by_more_le (λ x. bit (number x == n)) xs k d l in
      let second = is_one (get_or xs k d) f in
      let many = length-take-le k xs (omega (arith, l)) in
      let long : i < length (take k xs) = omega (arith, lt, many) in
      let first = at_one (take k xs) i d long (ap number (get_or-take k xs i d lt) ∙ e) in omega (arith, more, second, first)

  pub nowhere : (xs : List X) → All (λ x. number x ≡ n → ⊥) xs → count_by (λ x. number x == n) xs ≡ 0
  nowhere [] h = refl
  nowhere (x ∷ xs) h =
      let a = sum_by-cons (λ x. bit (number x == n)) x xs in
      let b = is_none x (All-head (λ x. number x ≡ n → ⊥) x xs h) in
      let c = nowhere xs (All-tail (λ x. number x ≡ n → ⊥) x xs h) in omega (arith, a, b, c)

  pub somewhere : (xs : List X) → 0 < count_by (λ x. number x == n) xs → (k : ℕ) × (k < length xs) × ((d : X) → number (get_or xs k d) ≡ n)
  somewhere [] h = absurd (omega (arith, h))
  somewhere (x ∷ xs) h = ⊎_elim
      (λ e. (0, omega arith, λ d. e))
      (λ ne.
      let a = sum_by-cons (λ x. bit (number x == n)) x xs in
      let b = is_none x ne in
      let r = somewhere xs (omega (arith, h, a, b)) in (suc r.0, omega (arith, r.1), r.2))
      (cases_eq (number x) n)

module _ {K V A : Type 0} where
  -- a version that has one
  pub in_version : (n : ℕ) (xs : List (Option (Stored (List (Entry K V)) A))) → 0 < sum_by (parts_in n) xs → (x : ℕ) × (s : Stored (List (Entry K V)) A) × (get_or xs x None ≡ Some s) × (0 < times_shown n s.value)
  in_version n [] h = absurd (omega (arith, h))
  in_version n (None ∷ xs) h =
      let a = sum_by-cons (parts_in n) None xs in
      let r = in_version n xs (omega (arith, h, a)) in (suc r.0, r.1, r.2, r.3)
  in_version n (Some s ∷ xs) h = ⊎_elim
      (λ lt. (0, s, refl, lt))
      (λ le.
      let a = sum_by-cons (parts_in n) (Some s) xs in
      let r = in_version n xs (omega (arith, h, a, le)) in (suc r.0, r.1, r.2, r.3))
      (cases_lt 0 (times_shown n s.value))

  -- no version has it where each one has smaller numbers alone
  pub none_in : (n : ℕ) (xs : List (Option (Stored (List (Entry K V)) A))) → ((x : ℕ) (s : Stored (List (Entry K V)) A) → get_or xs x None ≡ Some s → All (λ (e : Entry K V). e.number < n) s.value) → sum_by (parts_in n) xs ≡ 0
  none_in n [] h = refl
  none_in n (None ∷ xs) h =
      let a = sum_by-cons (parts_in n) None xs in
      let r = none_in n xs (λ x s e. h (suc x) s e) in omega (arith, a, r)
  none_in n (Some s ∷ xs) h =
      let a = sum_by-cons (parts_in n) (Some s) xs in
      let b = nowhere (λ (e : Entry K V). e.number) n s.value (λ k e l is. let lt = h 0 s refl k e l in omega (arith, lt, is)) in
      let r = none_in n xs (λ x t e. h (suc x) t e) in omega (arith, a, b, r)

-- what is there stands inside
pub within : {X : Type 0} (xs : List (Option X)) (x : ℕ) (s : X) → get_or xs x None ≡ Some s → x < length xs
within xs x s e = ⊎_elim (λ lt. lt) (λ past. absurd (none-some s (sym (get_or_past xs x None past) ∙ e))) (cases_lt x (length xs))

-- one fewer is there
pub fewer : {X : Type 0} (xs ys : List (Option X)) (slot : ℕ) (s : X) → get_or xs slot None ≡ Some s → ys ≡ set xs slot None → count_by is_some ys < count_by is_some xs
fewer {X} xs ys slot s at e =
    let weight : Option X → ℕ = λ o. bit (is_some o) in
    let a = sum_by-set weight xs slot None None (within xs slot s at) in
    let b = ap weight at in
    let c = ap (sum_by weight) e in omega (arith, a, b, c)

-- What is added up by makers is the whole.
use Rattle.std.proofs.Common.{◌≡◌, ◌≢◌, ℕ, zero, suc, ◌+◌, ◌<◌, ◌≤◌, ◌⊎◌, inl, inr, Bool, true, false, cond, List, [], ◌∷◌, All, filter, length, get_or, map, sum_by, refl, sym, ap, ◌∙◌, arith}
use Rattle.race.proofs.Words.{All-head, All-tail, sum_by-cons, dite, ℕ_discrete, added}

added_same : (f g : ℕ → ℕ) (p n : ℕ) → ((k : ℕ) → f k ≡ g k) → added f p n ≡ added g p n
added_same f g p zero h = refl
added_same f g p (suc n) h = let first = h p in let rest = added_same f g (p + 1) n h in omega (arith, first, rest)

added_plus : (f g : ℕ → ℕ) (p n : ℕ) → added (λ k. f k + g k) p n ≡ added f p n + added g p n
added_plus f g p zero = refl
added_plus f g p (suc n) = let rest = added_plus f g (p + 1) n in omega (arith, rest)

pub added_none : (f : ℕ → ℕ) (p n : ℕ) → ((k : ℕ) → p ≤ k → k < p + n → f k ≡ 0) → added f p n ≡ 0
added_none f p zero h = refl
added_none f p (suc n) h =
    let first = h p (omega arith) (omega arith) in
    let rest = added_none f (p + 1) n (λ k le lt. h k (omega (arith, le)) (omega (arith, lt))) in
    omega (arith, first, rest)

-- where one alone counts, it is the whole
pub added_one : (f : ℕ → ℕ) (p n k : ℕ) → p ≤ k → k < p + n → ((j : ℕ) → p ≤ j → j < p + n → j ≢ k → f j ≡ 0) → added f p n ≡ f k
added_one f p zero k le lt h = absurd (omega (arith, le, lt))
added_one f p (suc n) k le lt h =
    dite (ℕ_discrete p k)
    (λ e. let rest = added_none f (p + 1) n (λ j more less. h j (omega (arith, more)) (omega (arith, less)) (λ same. absurd (omega (arith, more, same, e)))) in let here = ap f e in omega (arith, rest, here))
    (λ ne. let none = h p (omega arith) (omega arith) ne in let rest = added_one f (p + 1) n k (omega (arith, le, ne)) (omega (arith, lt)) (λ j more less. h j (omega (arith, more)) (omega (arith, less))) in omega (arith, none, rest))

-- Sums over lists

pub sum_same : {A : Type 0} (f g : A → ℕ) (xs : List A) → ((i : ℕ) (d : A) → i < length xs → f (get_or xs i d) ≡ g (get_or xs i d)) → sum_by f xs ≡ sum_by g xs
sum_same f g [] h = refl
sum_same f g (x ∷ xs) h =
    let first = h 0 x (omega arith) in
    let rest = sum_same f g xs (λ i d lt. h (suc i) d (omega (arith, lt))) in
    sum_by-cons f x xs ∙ ((let a = sum_by-cons g x xs in omega (arith, first, rest, a)))

pub sum_map : {A B : Type 0} (f : B → ℕ) (g : A → B) (xs : List A) → sum_by f (map g xs) ≡ sum_by (λ x. f (g x)) xs
sum_map f g [] = refl
sum_map f g (x ∷ xs) =
    let rest = sum_map f g xs in
    let a = sum_by-cons (λ z. f (g z)) x xs in
    sum_by-cons f (g x) (map g xs) ∙ omega (arith, rest, a)

-- a sum over a list is that of what stands at each place
sum_at : {A : Type 0} (f : A → ℕ) (g : ℕ → ℕ) (p : ℕ) (xs : List A) → ((i : ℕ) (d : A) → i < length xs → f (get_or xs i d) ≡ g (p + i)) → sum_by f xs ≡ added g p (length xs)
sum_at f g p [] h = refl
sum_at f g p (x ∷ xs) h =
    let first : f x ≡ g p = h 0 x (omega arith) ∙ ap g (omega arith) in
    let rest = sum_at f g (p + 1) xs (λ i d lt. h (suc i) d (omega (arith, lt)) ∙ ap g (omega arith)) in
    sum_by-cons f x xs ∙ omega (arith, first, rest)

pub sum_by_place : {A : Type 0} (f : A → ℕ) (g : ℕ → ℕ) (xs : List A) → ((i : ℕ) (d : A) → i < length xs → f (get_or xs i d) ≡ g i) → sum_by f xs ≡ added g 0 (length xs)
sum_by_place f g xs h = sum_at f g 0 xs (λ i d lt. h i d lt ∙ ap g (omega arith))

-- a count of a list, item by item, of which each that counts has just one of so many makers
module _ {A : Type 0} (count : List A → ℕ) (weight : A → ℕ) (nil : count [] ≡ 0) (cons : (x : A) (xs : List A) → count (x ∷ xs) ≡ weight x + count xs) (is_by : ℕ → A → Bool) (n : ℕ) where
  pub record HasOneMaker (x : A) : Type 0 where
    pub maker : ℕ
    pub there : maker < n
    pub one : is_by maker x ≡ true
    pub others : (k : ℕ) → k ≢ maker → is_by k x ≡ false

  abbrev pub Counts : A → Type 0
  Counts x = (weight x ≡ 0) ⊎ HasOneMaker x

  part : (b : Bool) (x : A) (xs : List A) → count (cond b (x ∷ xs) xs) ≡ cond b (weight x) 0 + count xs
  part true x xs = cons x xs
  part false x xs = omega arith

  own_part : (k : ℕ) (x : A) (xs : List A) → count (filter (is_by k) (x ∷ xs)) ≡ cond (is_by k x) (weight x) 0 + count (filter (is_by k) xs)
  own_part k x xs = part (is_by k x) x (filter (is_by k) xs)

  none_of : (b : Bool) (w : ℕ) → w ≡ 0 → cond b w 0 ≡ 0
  none_of true w e = e
  none_of false w e = refl

  weighed : (x : A) → Counts x → added (λ k. cond (is_by k x) (weight x) 0) 0 n ≡ weight x
  weighed x (inl none) = added_none (λ k. cond (is_by k x) (weight x) 0) 0 n (λ k le lt. none_of (is_by k x) (weight x) none) ∙ sym none
  weighed x (inr m) =
      added_one (λ k. cond (is_by k x) (weight x) 0) 0 n m.maker (omega arith) (let there = m.there in omega (arith, there)) (λ j le lt ne. ap (λ b. cond b (weight x) 0) (m.others j ne))
      ∙ ap (λ b. cond b (weight x) 0) m.one

  -- the counts of all makers together are that of the whole list
  pub parts : (xs : List A) → All Counts xs → added (λ k. count (filter (is_by k) xs)) 0 n ≡ count xs
  parts [] h = added_none (λ k. count []) 0 n (λ k le lt. nil) ∙ sym nil
  parts (x ∷ xs) h =
      let one = weighed x (All-head Counts x xs h) in
      let rest = parts xs (All-tail Counts x xs h) in
      let both = added_plus (λ k. cond (is_by k x) (weight x) 0) (λ k. count (filter (is_by k) xs)) 0 n in
      added_same (λ k. count (filter (is_by k) (x ∷ xs))) (λ k. cond (is_by k x) (weight x) 0 + count (filter (is_by k) xs)) 0 n (λ k. own_part k x xs)
      ∙ (both ∙ (let whole = cons x xs in omega (arith, one, rest, whole)))

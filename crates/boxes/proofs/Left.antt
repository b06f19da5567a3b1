-- How many boxes have yet to come back.
use Rattle.std.proofs.Common.{◌≡◌, ℕ, zero, suc, ◌+◌, ◌≤◌, List, [], ◌∷◌, Option, Some, None, length, drop, get_or, refl, ap, subst, arith}
use Rattle.boxes.specs.Boxes.{Stored, one_of, left_in}

module _ {V A : Type 0} where
  left_split : (l : List (Option (Stored V A))) (k : ℕ) → left_in (drop k l) ≡ one_of (get_or l k None) + left_in (drop (suc k) l)
  left_split [] zero = refl
  left_split [] (suc k) = refl
  left_split (o ∷ l) zero = refl
  left_split (o ∷ l) (suc k) = left_split l k

  -- this slot's, and those of the slots after it
  pub left_next : (l : List (Option (Stored V A))) (k : ℕ) → left_in (drop k l) ≡ one_of (get_or l k None) + left_in (drop (k + 1) l)
  left_next l k = let e : suc k ≡ k + 1 = omega arith in subst (λ (n : ℕ). left_in (drop k l) ≡ one_of (get_or l k None) + left_in (drop n l)) e (left_split l k)

  -- none is left after the last slot
  pub left_past : (l : List (Option (Stored V A))) (k : ℕ) → length l ≤ k → left_in (drop k l) ≡ 0
  left_past [] zero le = refl
  left_past [] (suc k) le = refl
  left_past (o ∷ l) zero le = absurd (omega (arith, le))
  left_past (o ∷ l) (suc k) le = left_past l k (omega (arith, le))

  none_of : (o : Option (Stored V A)) → one_of o ≡ 0 → o ≡ None
  none_of None e = refl
  none_of (Some s) e = absurd cc

  -- where none is left, no slot has one
  pub none_left : (l : List (Option (Stored V A))) (x : ℕ) → left_in l ≡ 0 → get_or l x None ≡ None
  none_left [] x e = refl
  none_left (o ∷ l) zero e = none_of o (omega (arith, e))
  none_left (o ∷ l) (suc x) e = none_left l x (omega (arith, e))

  some_of : (o : Option (Stored V A)) (s : Stored V A) → o ≡ Some s → one_of o ≡ 1
  some_of o s e = ap one_of e

  some_in : (l : List (Option (Stored V A))) (x : ℕ) (s : Stored V A) → get_or l x None ≡ Some s → 1 ≤ left_in l
  some_in [] x s e = absurd cc
  some_in (o ∷ l) zero s e = let one = some_of o s e in omega (arith, one)
  some_in (o ∷ l) (suc x) s e = let one = some_in l x s e in omega (arith, one)

  -- where one is left, it is that of one slot
  pub only_one : (l : List (Option (Stored V A))) (x y : ℕ) (s t : Stored V A) → left_in l ≤ 1 → get_or l x None ≡ Some s → get_or l y None ≡ Some t → x ≡ y
  only_one [] x y s t le e f = absurd cc
  only_one (o ∷ l) zero zero s t le e f = refl
  only_one (o ∷ l) zero (suc y) s t le e f = let one = some_of o s e in let other = some_in l y t f in absurd (omega (arith, le, one, other))
  only_one (o ∷ l) (suc x) zero s t le e f = let one = some_of o t f in let other = some_in l x s e in absurd (omega (arith, le, one, other))
  only_one (o ∷ l) (suc x) (suc y) s t le e f = ap suc (only_one l x y s t (omega (arith, le)) e f)

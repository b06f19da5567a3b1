-- Views in a list.
use Rattle.std.proofs.Common.{◌≡◌, ◌≢◌, ℕ, zero, suc, ◌<◌, ◌⊎◌, List, [], ◌∷◌, ◌++◌, set, length, ⊎_elim, refl, sym, ap, ◌∙◌, subst, inl, inr, length-set, arith}
use mathlib.Core.Option.{some, some-injective, some-ne-none}
use lib.ListN.{get_elem?}
use Rattle.atomic_table.proofs.Lists.{at_set}

pub at_below : {A : Type 0} (l : List A) (i : ℕ) (a : A) → get_elem? l i ≡ some a → i < length l
at_below [] i a e = absurd (some-ne-none a (sym e))
at_below (x ∷ xs) zero a e = omega arith
at_below (x ∷ xs) (suc i) a e = let r = at_below xs i a e in omega arith

-- the last of a list has the list's length as its number
pub at_snoc : {A : Type 0} (l : List A) (a b : A) (j : ℕ) → get_elem? (l ++ a ∷ []) j ≡ some b → ((j ≢ length l) × (get_elem? l j ≡ some b)) ⊎ ((j ≡ length l) × (a ≡ b))
at_snoc [] a b zero e = inr (refl, some-injective a b e)
at_snoc [] a b (suc j) e = absurd (some-ne-none b (sym e))
at_snoc (x ∷ xs) a b zero e = inl ((λ h. omega arith), e)
at_snoc (x ∷ xs) a b (suc j) e = ⊎_elim (λ t. let n = t.0 in inl ((λ h. n (omega arith)), t.1)) (λ t. inr (ap suc t.0, t.1)) (at_snoc xs a b j e)

module _ {V : Type 0} (Q : ℕ → V → Type 0) where
  -- one seat has another view
  pub views_set : (vs : List V) (me : ℕ) (w : V) → Q me w → ((j : ℕ) (v : V) → j ≢ me → get_elem? vs j ≡ some v → Q j v) → (j : ℕ) (v : V) → get_elem? (set vs me w) j ≡ some v → Q j v
  views_set vs me w mine others j v e = ⊎_elim
      (λ (t : (j ≡ me) × (w ≡ v)). subst (λ (x : ℕ × V). Q x.0 x.1) (λ i. (sym t.0 i, t.1 i)) mine)
      (λ (t : (j ≢ me) × (get_elem? vs j ≡ some v)). others j v t.0 t.1)
      (at_set vs me j w v e)

  -- and there is a new seat
  pub views_split : (vs : List V) (id : ℕ) (left right : V) → Q id left → Q (length vs) right → ((j : ℕ) (v : V) → j ≢ id → get_elem? vs j ≡ some v → Q j v)
      → (j : ℕ) (v : V) → get_elem? (set vs id left ++ right ∷ []) j ≡ some v → Q j v
  views_split vs id left right l r others j v e = ⊎_elim
      (λ (t : (j ≢ length (set vs id left)) × (get_elem? (set vs id left) j ≡ some v)). views_set vs id left l others j v t.1)
      (λ (t : (j ≡ length (set vs id left)) × (right ≡ v)). subst (λ (x : ℕ × V). Q x.0 x.1) (λ i. (sym (t.0 ∙ length-set vs id left) i, t.1 i)) r)
      (at_snoc (set vs id left) right v j e)

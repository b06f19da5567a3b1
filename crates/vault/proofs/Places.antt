-- What stands at each place, and what each seat knows, where one of them changes. Assumes nothing.
--     put, put_here, put_else      a function that is changed at one number
--     seats                        what is known of one seat and of the others is known of each
use Rattle.std.proofs.Common.{◌≡◌, ◌≢◌, ℕ, List, set, sym, refl, ⊎_elim, subst}
use mathlib.Core.Option.{some}
use native.Mathlib.Decide.{ℕ_discrete}
use lib.ListN.{get_elem?}
use Rattle.atomic_table.proofs.Lists.{at_set}

abbrev pick : {P A : Type 0} → Dec P → A → A → A
pick (yes _) a b = a
pick (no _) a b = b

-- at i it is c, and else what f is
pub put : {A : Type 0} → (ℕ → A) → ℕ → A → ℕ → A
put f i c j = pick (ℕ_discrete j i) c (f j)

pub put_here : {A : Type 0} (f : ℕ → A) (i : ℕ) (c : A) → put f i c i ≡ c
unfolding put
put_here f i c = go (ℕ_discrete i i)
  where
    go : (d : Dec (i ≡ i)) → pick d c (f i) ≡ c
    go (yes _) = refl
    go (no n) = absurd (n refl)

pub put_else : {A : Type 0} (f : ℕ → A) (i : ℕ) (c : A) (j : ℕ) → j ≢ i → put f i c j ≡ f j
unfolding put
put_else f i c j other = go (ℕ_discrete j i)
  where
    go : (d : Dec (j ≡ i)) → pick d c (f j) ≡ f j
    go (yes e) = absurd (other e)
    go (no _) = refl

pub seats : {V : Type 0} (K : ℕ → V → Type 0) (vs : List V) (me : ℕ) (w : V) → K me w → ((j : ℕ) (d : V) → j ≢ me → get_elem? vs j ≡ some d → K j d)
    → (j : ℕ) (d : V) → get_elem? (set vs me w) j ≡ some d → K j d
seats {V} K vs me w mine others j d e = ⊎_elim (λ (t : (j ≡ me) × (w ≡ d)). subst (λ (x : ℕ × V). K x.0 x.1) (λ i. (sym t.0 i, t.1 i)) mine)
    (λ (t : (j ≢ me) × (get_elem? vs j ≡ some d)). others j d t.0 t.1) (at_set vs me j w d e)

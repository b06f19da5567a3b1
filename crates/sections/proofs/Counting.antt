-- Lists of units, and sums over processors.
use Rattle.std.proofs.Common.{◌≡◌, ◌≢◌, ℕ, zero, suc, ◌+◌, ◌*◌, ◌<◌, ◌≤◌, inl, inr, ⊎_elim, Bool, true, false, cond, eqb, ◌&&◌, List, [], ◌∷◌, All, sym, refl, ap, ◌∙◌, subst, eq-eqb, ne_eqb, arith}
use Rattle.std.proofs.lemmas.List.Elements.{All-nil, All-head, All-tail, All-cons}
use mathlib.Core.Logic.{dite}
use native.Mathlib.Decide.{ℕ_discrete}
use Rattle.sections.specs.Units.{In, those, many, drop_first, sum}

-- Functions

abbrev pub put : (ℕ → ℕ) → ℕ → ℕ → ℕ → ℕ
put f i c j = cond (eqb j i) c (f j)

pub put_here : (f : ℕ → ℕ) (i c j : ℕ) → j ≡ i → put f i c j ≡ c
put_here f i c j e = ap (λ b. cond b c (f j)) (eq-eqb j i e)

pub put_else : (f : ℕ → ℕ) (i c j : ℕ) → j ≢ i → put f i c j ≡ f j
put_else f i c j ne = ap (λ b. cond b c (f j)) (ne_eqb j i ne)

-- Sums

pub sum_same : (n : ℕ) (f g : ℕ → ℕ) → ((p : ℕ) → p < n → f p ≡ g p) → sum n f ≡ sum n g
sum_same zero f g h = refl
sum_same (suc n) f g h = let a = sum_same n f g (λ p lt. h p (omega (arith, lt))) in let b = h n (omega arith) in omega (arith, a, b)

pub sum_put : (n p k : ℕ) (f : ℕ → ℕ) → p < n → sum n (put f p k) + f p ≡ sum n f + k
sum_put zero p k f lt = absurd (omega (arith, lt))
sum_put (suc n) p k f lt = dite (ℕ_discrete n p)
    (λ e. let a = sum_same n (put f p k) f (λ q less. put_else f p k q (λ h. omega (arith, h, less, e))) in let b = put_here f p k n e in let c : f p ≡ f n = ap f (sym e) in omega (arith, a, b, c))
    (λ ne. let a = sum_put n p k f (omega (arith, ne, lt)) in let b = put_else f p k n ne in omega (arith, a, b))

pub sum_zero : (n : ℕ) (f : ℕ → ℕ) → ((p : ℕ) → p < n → f p ≡ 0) → sum n f ≡ 0
sum_zero zero f h = refl
sum_zero (suc n) f h = let a = sum_zero n f (λ p lt. h p (omega (arith, lt))) in let b = h n (omega arith) in omega (arith, a, b)

pub at_most : (n p : ℕ) (f : ℕ → ℕ) → p < n → f p ≤ sum n f
at_most n p f lt = let a = sum_put n p 0 f lt in omega (arith, a)

-- one stock of slot x is c now
pub lane_put : (n x p c : ℕ) (f : ℕ → ℕ) → p < n → sum n (λ q. put f (32 * p + x) c (32 * q + x)) + f (32 * p + x) ≡ sum n (λ q. f (32 * q + x)) + c
lane_put n x p c f lt = let a = sum_put n p c (λ q. f (32 * q + x)) lt in
    let b = sum_same n (λ q. put f (32 * p + x) c (32 * q + x)) (put (λ q. f (32 * q + x)) p c) (λ q _. dite (ℕ_discrete q p)
    (λ e. put_here f (32 * p + x) c (32 * q + x) (omega (arith, e)) ∙ sym (put_here (λ q. f (32 * q + x)) p c q e))
    (λ ne. put_else f (32 * p + x) c (32 * q + x) (λ h. ne (omega (arith, h))) ∙ sym (put_else (λ q. f (32 * q + x)) p c q ne))) in omega (arith, a, b)

-- and those of another slot are what they were
pub lane_else : (n x p c y : ℕ) (f : ℕ → ℕ) → x < 32 → y < 32 → y ≢ x → sum n (λ q. put f (32 * p + x) c (32 * q + y)) ≡ sum n (λ q. f (32 * q + y))
lane_else n x p c y f lx ly ne = sum_same n (λ q. put f (32 * p + x) c (32 * q + y)) (λ q. f (32 * q + y)) (λ q _. put_else f (32 * p + x) c (32 * q + y) (λ h. ne (omega (arith, h, lx, ly))))

pub same_place : (x p y q : ℕ) → x < 32 → y < 32 → 32 * p + x ≡ 32 * q + y → (x ≡ y) × (p ≡ q)
same_place x p y q lx ly e = (omega (arith, lx, ly, e), omega (arith, lx, ly, e))

-- Lists

module _ {A : Type 0} where
  pub those_yes : (f : A → Bool) (x : A) (l : List A) → f x ≡ true → those f (x ∷ l) ≡ x ∷ those f l
  those_yes f x l e = ap (λ b. cond b (x ∷ those f l) (those f l)) e

  pub those_no : (f : A → Bool) (x : A) (l : List A) → f x ≡ false → those f (x ∷ l) ≡ those f l
  those_no f x l e = ap (λ b. cond b (x ∷ those f l) (those f l)) e

  pub many_yes : (f : A → Bool) (x : A) (l : List A) → f x ≡ true → many f (x ∷ l) ≡ suc (many f l)
  many_yes f x l e = ap (λ b. cond b (suc (many f l)) (many f l)) e

  pub many_no : (f : A → Bool) (x : A) (l : List A) → f x ≡ false → many f (x ∷ l) ≡ many f l
  many_no f x l e = ap (λ b. cond b (suc (many f l)) (many f l)) e

  pub drop_yes : (f : A → Bool) (x : A) (l : List A) → f x ≡ true → drop_first f (x ∷ l) ≡ l
  drop_yes f x l e = ap (λ b. cond b l (x ∷ drop_first f l)) e

  pub drop_no : (f : A → Bool) (x : A) (l : List A) → f x ≡ false → drop_first f (x ∷ l) ≡ x ∷ drop_first f l
  drop_no f x l e = ap (λ b. cond b l (x ∷ drop_first f l)) e

  -- the first of both kinds, dropped from those of one kind
  pub those_drop : (f h g : A → Bool) → ((x : A) → g x ≡ (f x && h x)) → (l : List A) → those f (drop_first g l) ≡ drop_first h (those f l)
  those_drop f h g is [] = refl
  those_drop f h g is (x ∷ xs) = go (f x) (h x) refl refl (those_drop f h g is xs)
    where
      go : (a b : Bool) → f x ≡ a → h x ≡ b → those f (drop_first g xs) ≡ drop_first h (those f xs) → those f (drop_first g (x ∷ xs)) ≡ drop_first h (those f (x ∷ xs))
      go true true ea eb ih = let e : g x ≡ true = is x ∙ (λ i. ea i && eb i) in ap (those f) (drop_yes g x xs e) ∙ sym (ap (drop_first h) (those_yes f x xs ea) ∙ drop_yes h x (those f xs) eb)
      go true false ea eb ih = let e : g x ≡ false = is x ∙ (λ i. ea i && eb i) in
          ap (those f) (drop_no g x xs e) ∙ (those_yes f x (drop_first g xs) ea ∙ (ap (λ l. x ∷ l) ih ∙ sym (ap (drop_first h) (those_yes f x xs ea) ∙ drop_no h x (those f xs) eb)))
      go false b ea eb ih = let e : g x ≡ false = is x ∙ (λ i. ea i && eb i) in ap (those f) (drop_no g x xs e) ∙ (those_no f x (drop_first g xs) ea ∙ (ih ∙ sym (ap (drop_first h) (those_no f x xs ea))))

  pub those_else : (f g : A → Bool) → ((x : A) → g x ≡ true → f x ≡ false) → (l : List A) → those f (drop_first g l) ≡ those f l
  those_else f g apart [] = refl
  those_else f g apart (x ∷ xs) = go (g x) (f x) refl refl (those_else f g apart xs)
    where
      go : (a b : Bool) → g x ≡ a → f x ≡ b → those f (drop_first g xs) ≡ those f xs → those f (drop_first g (x ∷ xs)) ≡ those f (x ∷ xs)
      go true b ea eb ih = ap (those f) (drop_yes g x xs ea) ∙ sym (those_no f x xs (apart x ea))
      go false true ea eb ih = ap (those f) (drop_no g x xs ea) ∙ (those_yes f x (drop_first g xs) eb ∙ (ap (λ l. x ∷ l) ih ∙ sym (those_yes f x xs eb)))
      go false false ea eb ih = ap (those f) (drop_no g x xs ea) ∙ (those_no f x (drop_first g xs) eb ∙ (ih ∙ sym (those_no f x xs eb)))

  pub many_drop : (c g : A → Bool) → ((x : A) → g x ≡ true → c x ≡ true) → (l : List A) → 0 < many g l → suc (many c (drop_first g l)) ≡ many c l
  many_drop c g both [] some = absurd (omega (arith, some))
  many_drop c g both (x ∷ xs) some = go (g x) (c x) refl refl (λ h. many_drop c g both xs h)
    where
      go : (a b : Bool) → g x ≡ a → c x ≡ b → (0 < many g xs → suc (many c (drop_first g xs)) ≡ many c xs) → suc (many c (drop_first g (x ∷ xs))) ≡ many c (x ∷ xs)
      go true b ea eb rec = ap (λ l. suc (many c l)) (drop_yes g x xs ea) ∙ sym (many_yes c x xs (both x ea))
      go false true ea eb rec = let none = many_no g x xs ea in let ih = rec (omega (arith, some, none)) in
          ap (λ l. suc (many c l)) (drop_no g x xs ea) ∙ (ap suc (many_yes c x (drop_first g xs) eb ∙ ih) ∙ sym (many_yes c x xs eb))
      go false false ea eb rec = let none = many_no g x xs ea in let ih = rec (omega (arith, some, none)) in
          ap (λ l. suc (many c l)) (drop_no g x xs ea) ∙ (ap suc (many_no c x (drop_first g xs) eb) ∙ (ih ∙ sym (many_no c x xs eb)))

  pub many_else : (c g : A → Bool) → ((x : A) → g x ≡ true → c x ≡ false) → (l : List A) → many c (drop_first g l) ≡ many c l
  many_else c g apart [] = refl
  many_else c g apart (x ∷ xs) = go (g x) (c x) refl refl (many_else c g apart xs)
    where
      go : (a b : Bool) → g x ≡ a → c x ≡ b → many c (drop_first g xs) ≡ many c xs → many c (drop_first g (x ∷ xs)) ≡ many c (x ∷ xs)
      go true b ea eb ih = ap (many c) (drop_yes g x xs ea) ∙ sym (many_no c x xs (apart x ea))
      go false true ea eb ih = ap (many c) (drop_no g x xs ea) ∙ (many_yes c x (drop_first g xs) eb ∙ (ap suc ih ∙ sym (many_yes c x xs eb)))
      go false false ea eb ih = ap (many c) (drop_no g x xs ea) ∙ (many_no c x (drop_first g xs) eb ∙ (ih ∙ sym (many_no c x xs eb)))

  pub All_drop : (P : A → Type 0) (g : A → Bool) (l : List A) → All P l → All P (drop_first g l)
  All_drop P g [] h = h
  All_drop P g (x ∷ xs) h = go (g x) refl (All_drop P g xs (All-tail P x xs h))
    where
      go : (a : Bool) → g x ≡ a → All P (drop_first g xs) → All P (drop_first g (x ∷ xs))
      go true e ih = subst (All P) (sym (drop_yes g x xs e)) (All-tail P x xs h)
      go false e ih = subst (All P) (sym (drop_no g x xs e)) (All-cons P x (drop_first g xs) (All-head P x xs h) ih)

  pub All_in : (P : A → Type 0) (u : A) (l : List A) → All P l → In u l → P u
  All_in P u [] h i = absurd i
  All_in P u (x ∷ xs) h i = ⊎_elim (λ (e : u ≡ x). subst P (sym e) (All-head P x xs h)) (λ (i : In u xs). All_in P u xs (All-tail P x xs h) i) i

  pub All_other : (P Q : A → Type 0) (l : List A) → ((x : A) → In x l → P x → Q x) → All P l → All Q l
  All_other P Q [] f h = All-nil Q
  All_other P Q (x ∷ xs) f h = All-cons Q x xs (f x (inl refl) (All-head P x xs h)) (All_other P Q xs (λ y i. f y (inr i)) (All-tail P x xs h))

  -- one of those is in the list, and picked
  pub in_those : (f : A → Bool) (u : A) (l : List A) → In u (those f l) → In u l × (f u ≡ true)
  in_those f u [] i = absurd i
  in_those f u (x ∷ xs) i = go (f x) refl (λ h. in_those f u xs h)
    where
      go : (a : Bool) → f x ≡ a → (In u (those f xs) → In u xs × (f u ≡ true)) → In u (x ∷ xs) × (f u ≡ true)
      go true e rec = ⊎_elim (λ (h : u ≡ x). (inl h, ap f h ∙ e)) (λ (h : In u (those f xs)). let r = rec h in (inr r.0, r.1)) (subst (In u) (those_yes f x xs e) i)
      go false e rec = let r = rec (subst (In u) (those_no f x xs e) i) in (inr r.0, r.1)

  pub many_in : (g : A → Bool) (u : A) (l : List A) → In u l → g u ≡ true → 0 < many g l
  many_in g u [] i e = absurd i
  many_in g u (x ∷ xs) i e = ⊎_elim (λ (h : u ≡ x). let m = many_yes g x xs (ap g (sym h) ∙ e) in omega (arith, m)) (λ (h : In u xs). let ih = many_in g u xs h e in go (g x) refl ih) i
    where
      go : (a : Bool) → g x ≡ a → 0 < many g xs → 0 < many g (x ∷ xs)
      go true h ih = let m = many_yes g x xs h in omega (arith, m)
      go false h ih = let m = many_no g x xs h in omega (arith, m, ih)

  pub many_none : (g : A → Bool) (l : List A) → ((u : A) → In u l → g u ≡ false) → many g l ≡ 0
  many_none g [] h = refl
  many_none g (x ∷ xs) h = many_no g x xs (h x (inl refl)) ∙ many_none g xs (λ u i. h u (inr i))

-- Numbers without the first such one

-- Who has all seats in hand knows all raises: each has one maker.
use Rattle.std.proofs.Common.{◌≡◌, ◌≢◌, ℕ, zero, suc, ◌<◌, ◌==◌, max, cond, List, [], ◌∷◌, ◌++◌, length, refl, sym, ap, ◌∙◌, subst, eq-eqb, ne_eqb, arith}
use Rattle.std.proofs.lemmas.List.Elements.{filter-append}
use mathlib.Core.Logic.{dite}
use native.Mathlib.Decide.{ℕ_discrete}
use Rattle.funnel.specs.Glossary.{Shape, Raise, up, IsBeginning, raise_of, greatest, IsLegalAfter, IsLegal, raised_by, climb_from}
use Rattle.funnel.proofs.Own.{made_on}

kept_in : (p : ℕ) (r : Raise) (rs : List Raise) → r.by ≡ p → raised_by p (r ∷ rs) ≡ r ∷ raised_by p rs
kept_in p r rs is = ap (λ b. cond b (r ∷ raised_by p rs) (raised_by p rs)) (eq-eqb r.by p is)

left_out : (p : ℕ) (r : Raise) (rs : List Raise) → r.by ≢ p → raised_by p (r ∷ rs) ≡ raised_by p rs
left_out p r rs other = ap (λ b. cond b (r ∷ raised_by p rs) (raised_by p rs)) (ne_eqb r.by p other)

-- of a legal history nobody but one processor made a part: then all of this is its own
all_its_own : (shape : Shape) (p : ℕ) (before rs : List Raise) → IsLegalAfter shape before rs → ((q : ℕ) → q < shape.processors → q ≢ p → raised_by q rs ≡ []) → raised_by p rs ≡ rs
all_its_own shape p before [] legal none = refl
all_its_own shape p before (r ∷ rs) legal none = dite (ℕ_discrete r.by p)
    (λ own. kept_in p r rs own ∙ ap (λ l. r ∷ l) (all_its_own shape p (before ++ r ∷ []) rs legal.1 (λ q there other. sym (left_out q r rs (λ e. other (sym e ∙ own))) ∙ none q there other)))
    (λ other. let long = ap length (sym (kept_in r.by r rs refl) ∙ none r.by legal.0.by other) in absurd (omega (arith, long)))

legal_behind : (shape : Shape) (before xs ys : List Raise) → IsLegalAfter shape before (xs ++ ys) → (all : List Raise) × IsLegalAfter shape all ys
legal_behind shape before [] ys legal = (before, legal)
legal_behind shape before (x ∷ xs) ys legal = legal_behind shape (before ++ x ∷ []) xs ys legal.1

-- two lists with one front have one back
same_back : (a b c : List Raise) → a ++ b ≡ a ++ c → b ≡ c
same_back [] b c e = e
same_back (x ∷ a) b c e = same_back a b c (ap tail_of e)
  where
    tail_of : List Raise → List Raise
    tail_of [] = []
    tail_of (y ∷ ys) = ys

-- a history goes on from another one. Each processor has there just its raises of before and of an act, which is one processor's alone: so just the act came behind
pub raised_alone : (shape : Shape) (p : ℕ) (before act all : List Raise) → IsLegal shape all → IsBeginning before all → raised_by p act ≡ act → ((q : ℕ) → q ≢ p → raised_by q act ≡ [])
    → ((q : ℕ) → q < shape.processors → raised_by q all ≡ raised_by q (before ++ act)) → p < shape.processors → all ≡ before ++ act
raised_alone shape p before act all legal since own others same there =
    since.whole ∙ ap (λ l. before ++ l) (sym mine ∙ (back p there ∙ own))
  where
    back : (q : ℕ) → q < shape.processors → raised_by q since.rest ≡ raised_by q act
    back q inside = same_back (raised_by q before) (raised_by q since.rest) (raised_by q act) (sym (made_on q since) ∙ (same q inside ∙ filter-append (λ r. r.by == q) before act))

    behind : (l : List Raise) × IsLegalAfter shape l since.rest
    behind = legal_behind shape [] before since.rest (subst (λ l. IsLegal shape l) since.whole legal)

    mine : raised_by p since.rest ≡ since.rest
    mine = all_its_own shape p behind.0 since.rest behind.1 (λ q inside other. back q inside ∙ others q other)

-- The raises of one call

pub climb_is_own : (p n k m : ℕ) → raised_by p (climb_from p n k m) ≡ climb_from p n k m
climb_is_own p n k zero = refl
climb_is_own p n k (suc m) = filter-append (λ r. r.by == p) (climb_from p n k m) (raise_of p (up m k) n ∷ []) ∙ ((λ i. climb_is_own p n k m i ++ kept_in p (raise_of p (up m k) n) [] refl i))

pub climb_of_no_other : (p n k m q : ℕ) → q ≢ p → raised_by q (climb_from p n k m) ≡ []
climb_of_no_other p n k zero q other = refl
climb_of_no_other p n k (suc m) q other = filter-append (λ r. r.by == q) (climb_from p n k m) (raise_of p (up m k) n ∷ []) ∙ (λ i. climb_of_no_other p n k m q other i ++ left_out q (raise_of p (up m k) n) [] (λ e. other (sym e)) i)

-- The greatest number

pub greatest_append : (a b : List Raise) → greatest (a ++ b) ≡ max (greatest a) (greatest b)
greatest_append [] b = omega arith
greatest_append (r ∷ a) b = let h = greatest_append a b in omega (arith, h)

greatest_of_climb : (p n k m : ℕ) → greatest (climb_from p n k (suc m)) ≡ n
greatest_of_climb p n k zero = omega arith
greatest_of_climb p n k (suc m) =
    let h = greatest_of_climb p n k m in
    let both = greatest_append (climb_from p n k (suc m)) (raise_of p (up (suc m) k) n ∷ []) in
    omega (arith, h, both)

-- a call of at least one step asks for its number, and for no greater one
pub greatest_climbed : (p n k m : ℕ) (before : List Raise) → greatest (before ++ climb_from p n k (suc m)) ≡ max (greatest before) n
greatest_climbed p n k m before = let both = greatest_append before (climb_from p n k (suc m)) in let one = greatest_of_climb p n k m in omega (arith, both, one)

-- What the nodes hold was asked for, and the root holds the greatest number where no call is on its way.
use Rattle.std.proofs.Common.{◌≡◌, ◌≢◌, ℕ, suc, ◌<◌, ◌≤◌, ◌⊎◌, ◌==◌, cond, nat_le, Bool, true, false, List, [], ◌∷◌, ◌++◌, inl, inr, ⊎_elim, refl, sym, ap, ◌∙◌, subst, eq-eqb, ne_eqb, append_assoc, append-nil, arith}
use mathlib.Core.Logic.{dite}
use native.Mathlib.Decide.{ℕ_discrete, dec_le, dec_lt}
use Rattle.sseq.specs.Numbers.{IsNumber}
use Rattle.funnel.specs.Glossary.{Shape, Raise, Call, IsChild, parent, leaf_of, IsOn, IsBeginning, raise_of, given_to, value, greatest, call_after, call_then, call_from, call_of, MayFollow, IsLegalAfter, IsLegal, HasAsked, IsAskedBelow, HoldsWhatWasAsked, RootHasGreatest}
use Rattle.funnel.specs.declared.view.Call.TheVariants.{Idle, From}
use Rattle.funnel.proofs.Values.{value_push}
use Rattle.funnel.proofs.Climbing.{same_call, not_idle, call_here, call_else, root_has_all}

-- Beginnings of a legal history

pub legal_beginning : (shape : Shape) (before xs ys : List Raise) → IsLegalAfter shape before (xs ++ ys) → IsLegalAfter shape before xs
legal_beginning shape before [] ys legal = tt
legal_beginning shape before (x ∷ xs) ys legal = (legal.0, legal_beginning shape (before ++ x ∷ []) xs ys legal.1)

pub legal_part : (shape : Shape) {seen log : List Raise} → IsBeginning seen log → IsLegal shape log → IsLegal shape seen
legal_part shape {seen} h legal = legal_beginning shape [] seen h.rest (subst (λ l. IsLegal shape l) h.whole legal)

-- no node falls while the history goes on
pub value_on : (k : ℕ) (xs ys : List Raise) → value k xs ≤ value k (xs ++ ys)
value_on k [] ys = omega arith
value_on k (x ∷ xs) ys = let h = value_on k xs ys in omega (arith, h)

pub value_later : (k : ℕ) {a b : List Raise} → IsBeginning a b → value k a ≤ value k b
value_later k {a} {b} h = let more = value_on k a h.rest in let same = ap (value k) h.whole in omega (arith, more, same)

-- Calls climb from the leaf of their processor, each with one number

asked_later : (shape : Shape) (history : List Raise) (r : Raise) (p n : ℕ) → HasAsked shape history p n → HasAsked shape (history ++ r ∷ []) p n
asked_later shape history r p n a = record { before = a.before; after = a.after ++ r ∷ []; asked = ap (λ l. l ++ r ∷ []) a.asked ∙ append_assoc a.before (raise_of p (leaf_of shape.nodes p) n ∷ a.after) (r ∷ []) }

abbrev ClimbsFromLeaf : Shape → List Raise → Type 0
ClimbsFromLeaf shape history = (p j n : ℕ) → call_of p history ≡ From j n → IsOn shape.nodes p j × HasAsked shape history p n

-- a call that went on did so from this node, with this number
from_here : (k n found j m : ℕ) → call_after k n found ≡ From j m → (k ≡ j) × (n ≡ m)
from_here k n found j m = by_cases (nat_le n found) (k == 0)
  where
    by_cases : (a b : Bool) → cond a Idle (cond b Idle (From k n)) ≡ From j m → (k ≡ j) × (n ≡ m)
    by_cases true b e = absurd (not_idle j m e)
    by_cases false true e = absurd (not_idle j m e)
    by_cases false false e = same_call k j n m e

raised_on : (shape : Shape) (before : List Raise) (r : Raise) → ClimbsFromLeaf shape before → MayFollow shape before r → IsOn shape.nodes r.by r.node × HasAsked shape (before ++ r ∷ []) r.by r.number
raised_on shape before r climbs may = ⊎_elim
    (λ (t : (call_of r.by before ≡ Idle) × (r.node ≡ leaf_of shape.nodes r.by)). ((0, sym t.1), record { before = before; after = []; asked = λ i. before ++ raise_of r.by (t.1 i) r.number ∷ [] }))
    (λ (t : (j : ℕ) × (call_of r.by before ≡ From j r.number) × IsChild j r.node).
    let below = climbs r.by t.0 r.number t.1 in let low = t.2.0 in let high = t.2.1 in ((suc below.0.0, ap parent below.0.1 ∙ omega (arith, low, high)), asked_later shape before r r.by r.number below.1))
    may.next

climbs_push : (shape : Shape) (before : List Raise) (r : Raise) → ClimbsFromLeaf shape before → MayFollow shape before r → ClimbsFromLeaf shape (before ++ r ∷ [])
climbs_push shape before r climbs may p j n e = dite (ℕ_discrete r.by p)
    (λ own. let here = from_here r.node r.number (value r.node before) j n (sym (call_here p before r own) ∙ e) in let on = raised_on shape before r climbs may in
    (subst (λ (z : ℕ × ℕ). IsOn shape.nodes z.0 z.1) (λ i. (own i, here.0 i)) on.0, subst (λ (z : ℕ × ℕ). HasAsked shape (before ++ r ∷ []) z.0 z.1) (λ i. (own i, here.1 i)) on.1))
    (λ other. let was = climbs p j n (sym (call_else p before r other) ∙ e) in (was.0, asked_later shape before r p n was.1))

given_here : (k : ℕ) (r : Raise) → r.node ≡ k → given_to k r ≡ r.number
given_here k r e = ap (λ b. cond b r.number 0) (eq-eqb r.node k e)

given_else : (k : ℕ) (r : Raise) → r.node ≢ k → given_to k r ≡ 0
given_else k r n = ap (λ b. cond b r.number 0) (ne_eqb r.node k n)

-- Who asked

abbrev HoldAsked : Shape → List Raise → Type 0
HoldAsked shape history = (k : ℕ) → (value k history ≡ 0) ⊎ IsAskedBelow shape history k (value k history)

hold_push : (shape : Shape) (before : List Raise) (r : Raise) → ClimbsFromLeaf shape before → MayFollow shape before r → HoldAsked shape before → HoldAsked shape (before ++ r ∷ [])
hold_push shape before r climbs may was k = let new = value_push k before r in dite (dec_le (given_to k r) (value k before))
    (λ (le : given_to k r ≤ value k before). let same : value k (before ++ r ∷ []) ≡ value k before = omega (arith, new, le) in ⊎_elim
    (λ none. inl (same ∙ none))
    (λ (a : IsAskedBelow shape before k (value k before)). inr (subst (λ n. IsAskedBelow shape (before ++ r ∷ []) k n) (sym same) record { processor = a.processor; there = a.there; below = a.below; asked = asked_later shape before r a.processor (value k before) a.asked }))
    (was k))
    (λ (gt : ¬ (given_to k r ≤ value k before)). dite (ℕ_discrete r.node k)
    (λ here. let g = given_here k r here in
    let same : value k (before ++ r ∷ []) ≡ r.number = omega (arith, g, gt, new) in
    let on = raised_on shape before r climbs may in
    inr (subst (λ n. IsAskedBelow shape (before ++ r ∷ []) k n) (sym same) record { processor = r.by; there = may.by; below = subst (λ z. IsOn shape.nodes r.by z) here on.0; asked = on.1 }))
    (λ away. let g = given_else k r away in absurd (omega (arith, g, gt))))

hold_after : (shape : Shape) (before rs : List Raise) → ClimbsFromLeaf shape before → HoldAsked shape before → IsLegalAfter shape before rs → HoldAsked shape (before ++ rs)
hold_after shape before [] climbs was legal = subst (λ l. HoldAsked shape l) (sym (append-nil before)) was
hold_after shape before (r ∷ rs) climbs was legal = subst (λ l. HoldAsked shape l) (append_assoc before (r ∷ []) rs) (hold_after shape (before ++ r ∷ []) rs (climbs_push shape before r climbs legal.0) (hold_push shape before r climbs legal.0 was) legal.1)

pub holds_what_was_asked : HoldsWhatWasAsked
holds_what_was_asked shape history k legal = hold_after shape [] history (λ p j n e. absurd (not_idle j n e)) (λ k. inl refl) legal k

-- the greatest of the numbers of domains is one
number_after : (shape : Shape) (before rs : List Raise) (k : ℕ) → IsLegalAfter shape before rs → IsNumber (value k rs)
number_after shape before [] k legal = record { state_below_3 = omega arith; small = omega arith }
number_after shape before (r ∷ rs) k legal = dite (dec_le (given_to k r) (value k rs))
    (λ (le : given_to k r ≤ value k rs). let same : value k (r ∷ rs) ≡ value k rs = omega arith in subst IsNumber (sym same) (number_after shape (before ++ r ∷ []) rs k legal.1))
    (λ (gt : ¬ (given_to k r ≤ value k rs)). dite (ℕ_discrete r.node k)
    (λ here. let g = given_here k r here in let same : value k (r ∷ rs) ≡ r.number = omega (arith, g, gt) in subst IsNumber (sym same) legal.0.number)
    (λ away. let g = given_else k r away in absurd (omega (arith, g, gt))))

pub value_is_number : (shape : Shape) (history : List Raise) (k : ℕ) → IsLegal shape history → IsNumber (value k history)
value_is_number shape history k legal = number_after shape [] history k legal

-- The greatest

-- who is no processor of the tree has no call
stays_out : (shape : Shape) (p : ℕ) → ¬ (p < shape.processors) → (before : List Raise) (call : Call) (rs : List Raise) → IsLegalAfter shape before rs → call_from p before call rs ≡ call
stays_out shape p out before call [] legal = refl
stays_out shape p out before call (r ∷ rs) legal =
    let by = legal.0.by in
    let same : call_then p before call r ≡ call = ap (λ b. cond b (call_after r.node r.number (value r.node before)) call) (ne_eqb r.by p (λ e. out (subst (λ z. z < shape.processors) e by))) in
    ap (λ c. call_from p (before ++ r ∷ []) c rs) same ∙ stays_out shape p out (before ++ r ∷ []) call rs legal.1

value_below : (k : ℕ) (rs : List Raise) → value k rs ≤ greatest rs
value_below k [] = omega arith
value_below k (r ∷ rs) = let h = value_below k rs in dite (ℕ_discrete r.node k)
    (λ here. let g = given_here k r here in omega (arith, h, g))
    (λ away. let g = given_else k r away in omega (arith, h, g))

greatest_below : (n : ℕ) (rs : List Raise) → ((k : ℕ) → value k rs ≤ n) → greatest rs ≤ n
greatest_below n [] all = omega arith
greatest_below n (r ∷ rs) all = let here = all r.node in let g = given_here r.node r refl in let rest = greatest_below n rs (λ k. let a = all k in omega (arith, a)) in omega (arith, here, g, rest)

pub root_has_greatest : RootHasGreatest
root_has_greatest shape history legal idle =
    let low = value_below 0 history in
    let high = greatest_below (value 0 history) history (root_has_all shape history legal (λ p. dite (dec_lt p shape.processors) (idle p) (λ out. stays_out shape p out [] Idle history legal))) in
    omega (arith, low, high)

-- In a legal history each node's parent holds as much, or a call is on its way there.
use Rattle.std.proofs.Common.{◌≡◌, ◌≢◌, ℕ, zero, suc, ◌-◌, ◌/◌, ◌<◌, ◌≤◌, ◌⊎◌, ◌==◌, if◌then◌else◌, Bool, true, false, cond, nat_le, List, [], ◌∷◌, ◌++◌, inl, inr, ⊎_elim, refl, sym, ap, ◌∙◌, subst, eq-eqb, ne_eqb, leb-true, append_assoc, append-nil, arith}
use mathlib.Core.Logic.{dite}
use native.Mathlib.Decide.{ℕ_discrete, dec_le}
use Rattle.funnel.specs.Glossary.{Shape, Raise, Call, IsChild, leaf_of, value, call_after, call_then, call_from, call_of, MayRaise, MayFollow, IsLegalAfter, IsLegal, IsOnItsWay, NeedsClimb}
use Rattle.funnel.specs.declared.view.Call.TheVariants.{Idle, From}
use Rattle.funnel.specs.Histories.{Climbs}
use Rattle.funnel.proofs.Values.{value_here, value_else}

-- Calls

pub same_call : (j i m n : ℕ) → From j m ≡ From i n → (j ≡ i) × (m ≡ n)
same_call j i m n e = (ap node_in e, ap number_in e)
  where
    node_in : Call → ℕ
    node_in Idle = 0
    node_in (From k n) = k

    number_in : Call → ℕ
    number_in Idle = 0
    number_in (From k n) = n

pub not_idle : (j n : ℕ) → Idle ≡ From j n → ⊥
not_idle j n e = let same : 0 ≡ 1 = ap kind e in omega (arith, same)
  where
    kind : Call → ℕ
    kind Idle = 0
    kind (From k n) = 1

-- a call that may raise node k can be on its way only from a child of it, with this number
from_child : (leaf : ℕ) (call : Call) (k n j m : ℕ) → MayRaise leaf call k n → call ≡ From j m → (m ≡ n) × IsChild j k
from_child leaf call k n j m (inl idle) e = absurd (not_idle j m (sym idle.0 ∙ e))
from_child leaf call k n j m (inr (i, from, child)) e = let same = same_call j i m n (sym e ∙ from) in (same.1, subst (λ z. IsChild z k) (sym same.0) child)

-- where less was found, and not at the root, the call goes on
pub goes_up : (k n found : ℕ) → found < n → k ≢ 0 → call_after k n found ≡ From k n
goes_up k n found less inner = ap (λ b. cond b Idle (if k == 0 then Idle else From k n)) (not_le (nat_le n found) refl) ∙ ap (λ b. cond b Idle (From k n)) (ne_eqb k 0 inner)
  where
    not_le : (x : Bool) → nat_le n found ≡ x → nat_le n found ≡ false
    not_le true e = let le = leb-true n found e in absurd (omega (arith, le, less))
    not_le false e = e

-- one more step

call_from_push : (p : ℕ) (before : List Raise) (call : Call) (rs : List Raise) (r : Raise) → call_from p before call (rs ++ r ∷ []) ≡ call_then p (before ++ rs) (call_from p before call rs) r
call_from_push p before call [] r = ap (λ l. call_then p l call r) (sym (append-nil before))
call_from_push p before call (x ∷ xs) r = call_from_push p (before ++ x ∷ []) (call_then p before call x) xs r ∙ ap (λ l. call_then p l (call_from p (before ++ x ∷ []) (call_then p before call x) xs) r) (append_assoc before (x ∷ []) xs)

pub call_push : (p : ℕ) (log : List Raise) (r : Raise) → call_of p (log ++ r ∷ []) ≡ call_then p log (call_of p log) r
call_push p log r = call_from_push p [] Idle log r

pub call_here : (p : ℕ) (log : List Raise) (r : Raise) → r.by ≡ p → call_of p (log ++ r ∷ []) ≡ call_after r.node r.number (value r.node log)
call_here p log r e = call_push p log r ∙ ap (λ b. cond b (call_after r.node r.number (value r.node log)) (call_of p log)) (eq-eqb r.by p e)

pub call_else : (p : ℕ) (log : List Raise) (r : Raise) → r.by ≢ p → call_of p (log ++ r ∷ []) ≡ call_of p log
call_else p log r n = call_push p log r ∙ ap (λ b. cond b (call_after r.node r.number (value r.node log)) (call_of p log)) (ne_eqb r.by p n)

-- no node falls
pub value_grows : (k : ℕ) (log : List Raise) (r : Raise) → value k log ≤ value k (log ++ r ∷ [])
value_grows k log r = dite (ℕ_discrete r.node k)
    (λ h. let new = value_here k log r h in omega (arith, new))
    (λ h. let new = value_else k log r h in omega (arith, new))

one_parent : (j c k : ℕ) → IsChild j c → IsChild j k → c ≡ k
one_parent j c k a b = let a0 = a.0 in let a1 = a.1 in let b0 = b.0 in let b1 = b.1 in omega (arith, a0, a1, b0, b1)

not_own_child : (j k : ℕ) → IsChild j k → j ≢ k
not_own_child j k b e = let low = b.0 in omega (arith, low, e)

module _ (leaf : ℕ) (log : List Raise) (r : Raise) (may : MayRaise leaf (call_of r.by log) r.node r.number) where
  -- another processor's call stands where it stood
  still : (j p : ℕ) → p ≢ r.by → call_of p log ≡ From j (value j log) → value j (log ++ r ∷ []) ≡ value j log → IsOnItsWay (log ++ r ∷ []) j
  still j p other call same = (p, call_else p log r (λ e. other (sym e)) ∙ (call ∙ ap (From j) (sym same)))

  -- the caller's own call was on its way from a child of the node that it raises
  own : (j p : ℕ) → p ≡ r.by → call_of p log ≡ From j (value j log) → (value j log ≡ r.number) × IsChild j r.node
  own j p mine call = from_child leaf (call_of r.by log) r.node r.number j (value j log) may (ap (λ q. call_of q log) (sym mine) ∙ call)

  climbs_push : Climbs log → Climbs (log ++ r ∷ [])
  climbs_push was j c child = dite (ℕ_discrete r.node j) (λ here. raised here) (λ away. let same = value_else j log r away in ⊎_elim
      (λ le. let more = value_grows c log r in inl (omega (arith, same, le, more)))
      (λ (t : IsOnItsWay log j). dite (ℕ_discrete t.0 r.by)
      (λ mine. let o = own j t.0 mine t.1 in let low = o.0 in
      let new = value_here c log r (one_parent j r.node c o.1 child) in inl (omega (arith, same, low, new)))
      (λ other. inr (still j t.0 other t.1 same)))
      (was j c child))
    where
      -- the node that is raised is not the root, since it has a parent
      raised : r.node ≡ j → (value j (log ++ r ∷ []) ≤ value c (log ++ r ∷ [])) ⊎ IsOnItsWay (log ++ r ∷ []) j
      raised here = let new = value_here j log r here in let above = value_grows c log r in dite (dec_le r.number (value j log))
          (λ le. let same : value j (log ++ r ∷ []) ≡ value j log = omega (arith, new, le) in ⊎_elim
          (λ low. inl (omega (arith, same, low, above)))
          (λ (t : IsOnItsWay log j). dite (ℕ_discrete t.0 r.by)
          (λ mine. absurd (not_own_child j r.node (own j t.0 mine t.1).1 (sym here)))
          (λ other. inr (still j t.0 other t.1 same)))
          (was j c child))
          (λ more. let now : value j (log ++ r ∷ []) ≡ r.number = omega (arith, new, more) in
          let found : value r.node log ≡ value j log = ap (λ z. value z log) here in
          let low = child.0 in
          inr (r.by, call_here r.by log r refl ∙ (goes_up r.node r.number (value r.node log) (omega (arith, found, more)) (λ z. omega (arith, z, here, low)) ∙ (λ i. From (here i) (sym now i)))))

climbs_after : (shape : Shape) (before rs : List Raise) → Climbs before → IsLegalAfter shape before rs → Climbs (before ++ rs)
climbs_after shape before [] was legal = subst Climbs (sym (append-nil before)) was
climbs_after shape before (r ∷ rs) was legal = subst Climbs (append_assoc before (r ∷ []) rs) (climbs_after shape (before ++ r ∷ []) rs (climbs_push (leaf_of shape.nodes r.by) before r legal.0.next was) legal.1)

pub needs_climb : NeedsClimb
needs_climb shape history legal = climbs_after shape [] history (λ j k child. inl (omega arith)) legal

-- up to the root, where no call is on its way
pub root_has_all : (shape : Shape) (history : List Raise) → IsLegal shape history → ((p : ℕ) → call_of p history ≡ Idle) → (k : ℕ) → value k history ≤ value 0 history
root_has_all shape history legal idle k = up_from k k (omega arith)
  where
    up_from : (most k : ℕ) → k ≤ most → value k history ≤ value 0 history
    up_from zero k le = let root : k ≡ 0 = omega arith in let same = ap (λ z. value z history) root in omega (arith, same)
    up_from (suc most) k le = dite (ℕ_discrete k 0)
        (λ root. let same = ap (λ z. value z history) root in omega (arith, same))
        (λ inner. ⊎_elim
        (λ low. let above = up_from most ((k - 1) / 4) (omega (arith, le, inner)) in omega (arith, low, above))
        (λ (t : IsOnItsWay history k). absurd (not_idle k (value k history) (sym (idle t.0) ∙ t.1)))
        (needs_climb shape history legal k ((k - 1) / 4) (omega (arith, inner), omega (arith, inner))))

pub legal_push : (shape : Shape) (before rs : List Raise) (r : Raise) → IsLegalAfter shape before rs → MayFollow shape (before ++ rs) r → IsLegalAfter shape before (rs ++ r ∷ [])
legal_push shape before [] r legal may = (subst (λ l. MayFollow shape l r) (append-nil before) may, tt)
legal_push shape before (x ∷ xs) r legal may = (legal.0, legal_push shape (before ++ x ∷ []) xs r legal.1 (subst (λ l. MayFollow shape l r) (sym (append_assoc before (x ∷ []) xs)) may))

-- What the nodes hold after one more step.
use Rattle.std.proofs.Common.{◌≡◌, ◌≢◌, ℕ, max, cond, List, [], ◌∷◌, ◌++◌, ap, eq-eqb, ne_eqb, arith}
pub use Rattle.annals.proofs.CallerLemmas.{beginning_refl as begins_itself}
use Rattle.annals.proofs.CallerLemmas.{beginning_more, beginning_on}
use Rattle.funnel.specs.Glossary.{Raise, IsBeginning, given_to, value}

pub value_push : (k : ℕ) (rs : List Raise) (r : Raise) → value k (rs ++ r ∷ []) ≡ max (value k rs) (given_to k r)
value_push k [] r = omega arith
value_push k (x ∷ xs) r = let h = value_push k xs r in omega (arith, h)

pub value_here : (k : ℕ) (rs : List Raise) (r : Raise) → r.node ≡ k → value k (rs ++ r ∷ []) ≡ max (value k rs) r.number
value_here k rs r e = let p = value_push k rs r in let g : given_to k r ≡ r.number = ap (λ b. cond b r.number 0) (eq-eqb r.node k e) in omega (arith, p, g)

pub value_else : (k : ℕ) (rs : List Raise) (r : Raise) → r.node ≢ k → value k (rs ++ r ∷ []) ≡ value k rs
value_else k rs r n = let p = value_push k rs r in let g : given_to k r ≡ 0 = ap (λ b. cond b r.number 0) (ne_eqb r.node k n) in omega (arith, p, g)

pub begins_pushed : {seen log : List Raise} (r : Raise) → IsBeginning seen log → IsBeginning seen (log ++ r ∷ [])
begins_pushed {seen = seen} {log = log} r h = beginning_more seen log (r ∷ []) h

pub begins_on : {a b c : List Raise} → IsBeginning a b → IsBeginning b c → IsBeginning a c
begins_on {a = a} {b = b} {c = c} h g = beginning_on a b c h g

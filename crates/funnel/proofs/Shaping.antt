-- The tree's size.
use Rattle.std.proofs.Common.{◌≡◌, ℕ, zero, suc, ◌+◌, ◌*◌, ◌<◌, ◌≤◌, refl, ap, arith}
use mathlib.Core.Logic.{dite}
use native.Mathlib.Decide.{dec_le}
use Rattle.funnel.specs.Tree.{room, nodes_of, IsLeast, LeavesAreThere}

pub sizes : (h : ℕ) → 3 * nodes_of h + 1 ≡ room h
sizes zero = refl
sizes (suc h) = let r = sizes h in omega (arith, r)

pub room_grows : (h k : ℕ) → h ≤ k → room h ≤ room k
room_grows h zero le = let z : h ≡ 0 = omega arith in let s = ap room z in omega (arith, s)
room_grows h (suc k) le = dite (dec_le h k) (λ l. let r = room_grows h k l in omega (arith, r)) (λ g. let e : h ≡ suc k = omega (arith, le, g) in let s = ap room e in omega (arith, s))

-- one level more was needed
pub least_next : (processors k : ℕ) → room k < processors → (h : ℕ) → 1 ≤ h → processors ≤ room h → suc k ≤ h
least_next processors k less h _ enough = dite (dec_le (suc k) h) (λ l. l) (λ g. let r = room_grows h k (omega (arith, g)) in absurd (omega (arith, r, less, enough)))

pub leaves_there : (processors h nodes : ℕ) → nodes ≡ nodes_of (suc h) → processors ≤ room (suc h) → LeavesAreThere processors nodes
leaves_there processors h nodes is enough p lt = let s = sizes (suc h) in let below = sizes h in omega (arith, is, enough, lt, s)

pub least_some : (processors nodes : ℕ) → IsLeast processors nodes → 0 < nodes
least_some processors nodes h = some_of h.height nodes h.some h.nodes_are
  where
    some_of : (height nodes : ℕ) → 1 ≤ height → nodes ≡ nodes_of height → 0 < nodes
    some_of zero nodes some is = absurd (omega (arith, some))
    some_of (suc k) nodes some is = omega (arith, is)

-- When a cookie is done. Crates above cite these.
use Rattle.std.proofs.Common.{◌≡◌, ◌≢◌, ℕ, ◌≤◌, ⊎_elim, inl, inr, if◌then◌else◌, Bool, true, nat_le, leb-true, le-leb, eq-eqb, ne_eqb, sym, ap, ◌∙◌}
use mathlib.Core.Logic.{dite}
use native.Mathlib.Decide.{ℕ_discrete}
use Rattle.sseq.specs.Numbers.{IsDoneAt, done_at}

abbrev answer : ℕ → ℕ → Bool → Bool
answer n cookie b = if b then true else nat_le cookie n

pub done_one : (n cookie : ℕ) → cookie ≡ 1 → true ≡ done_at n cookie
done_one n cookie is = sym (ap (answer n cookie) (eq-eqb cookie 1 is))

pub done_other : (n cookie : ℕ) → cookie ≢ 1 → nat_le cookie n ≡ done_at n cookie
done_other n cookie other = sym (ap (answer n cookie) (ne_eqb cookie 1 other))

-- what is not the completed cookie is done where the number has reached it
pub reached : (n cookie : ℕ) → cookie ≢ 1 → IsDoneAt n cookie → cookie ≤ n
reached n cookie other = ⊎_elim (λ is. absurd (other is)) (λ le. le)

pub done_true : (n cookie : ℕ) → done_at n cookie ≡ true → IsDoneAt n cookie
done_true n cookie t = dite (ℕ_discrete cookie 1) (λ is. inl is) (λ other. inr (leb-true cookie n (done_other n cookie other ∙ t)))

pub done_is : (n cookie : ℕ) → IsDoneAt n cookie → done_at n cookie ≡ true
done_is n cookie d = dite (ℕ_discrete cookie 1) (λ is. sym (done_one n cookie is)) (λ other. sym (done_other n cookie other) ∙ le-leb cookie n (reached n cookie other d))

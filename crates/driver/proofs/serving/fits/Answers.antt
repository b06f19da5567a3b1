-- A size that is told is capped at 2^64 - 1, and a smaller one is the size itself. A value is no larger than one that may be missing.
use Rattle.std.proofs.Common.{◌≡◌, ℕ, ◌+◌, ◌<◌, ◌^◌, max, true, sym, ap, ◌∙◌, subst, arith}
use lib.Dec.{T, ltb, ltb→lt}
use prog.Memory.{up, pad, capped}
use prog.Capped.{capped_small}
use Rattle.driver.proofs.serving.fits.Goals as goal

told : (s n : ℕ) → n ≡ capped s → ltb n 9223372036854775808 ≡ true → s < 2 ^ 63
told s n is e = capped_small s (ltb→lt (capped s) 9223372036854775808 (subst T (sym (ap (λ k. ltb k 9223372036854775808) (sym is) ∙ e)) tt))

behind : (k b s n : ℕ) → n ≡ capped (up k (max 1 (max (b + s) 1))) → ltb n 9223372036854775808 ≡ true → s < 2 ^ 63
behind k b s n is e =
    let small : max 1 (max (b + s) 1) + pad k (max 1 (max (b + s) 1)) < 2 ^ 63 = told (up k (max 1 (max (b + s) 1))) n is e in
    omega (arith, small)

pub returns : goal.returns
returns g c = λ is. behind _ _ _ c.size_of_val.result c.size_of_val.ensures is

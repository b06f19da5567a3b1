-- For the tests: what is taken out of a list of two, the last one first.
use Rattle.std.proofs.Common.{◌≡◌, List, [], ◌∷◌, ◌++◌, length, get_or, ap, ◌∙◌, length-append, arith}

pub two_taken : {X : Type 0} (all one none : List X) (x y d : X) → all ≡ one ++ y ∷ [] → one ≡ none ++ x ∷ [] → length all ≡ 2 → (get_or all 0 d ≡ x) × (get_or all 1 d ≡ y)
two_taken all one [] x y d last first two = let whole : all ≡ x ∷ y ∷ [] = last ∙ ap (λ l. l ++ y ∷ []) first in (ap (λ l. get_or l 0 d) whole, ap (λ l. get_or l 1 d) whole)
two_taken all one (z ∷ zs) x y d last first two =
    let a = ap length last in
    let b = length-append one (y ∷ []) in
    let c = ap length first in
    let e = length-append zs (x ∷ []) in
    absurd (omega (arith, a, b, c, e, two))

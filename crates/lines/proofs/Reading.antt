-- Bytes that are read a part at a time.
use Rattle.std.proofs.Common.{◌≡◌, ℕ, List, ◌++◌, Option, Result, Ok, Err, MatchResult, take, subst, ap, ◌∙◌, append-nil}
use Rattle.std.proofs.KnownBytes.{Consumes-trans}
use Rattle.std.specs.Io.KnownBytes.{Consumes}

-- a read of no byte
pub Consumes-none : (u v w : Option (List ℕ)) (taken bytes : List ℕ) (n : ℕ) → n ≡ 0 → Consumes u v taken → Consumes v w (take n bytes) → Consumes u w taken
Consumes-none u v w taken bytes n none before next =
    subst (Consumes u w) (ap (λ n. taken ++ take n bytes) none ∙ append-nil taken) (Consumes-trans u v w taken (take n bytes) before next)

-- what holds besides, after an `Ok`
pub MatchResult-and : {T E : Type 0} (r : Result T E) (P : T → Type 0) (Q : E → Type 0) (A : Type 0) → MatchResult r P Q → A → MatchResult r (λ x. P x × A) Q
MatchResult-and (Ok x) P Q A m a = (m, a)
MatchResult-and (Err e) P Q A m a = m

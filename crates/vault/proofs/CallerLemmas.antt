-- For callers. Assumes nothing.
--     same_key      a key knows what is equal to what it knows
--     last_key      of a list of keys the last one, and the others
--     keys_pop      the same of a list that `pop` makes shorter
use Rattle.std.proofs.Common.{◌≡◌, ℕ, suc, ◌+◌, List, [], ◌∷◌, ◌++◌, length, refl, ap, ◌∙◌, subst, arith, Option, Some}
use Rattle.std.specs.Prelude.{option_to_list}
use Rattle.atomic_table.specs.Seated.{TableId}
use Rattle.atomic_table.specs.declared.badge.Badge.{Badge}
use Rattle.vault.specs.declared.key.Tally.{Tally}
use Rattle.vault.specs.Keys.{AreKeys, IsKey}
use Rattle.vault.specs.Rule.{key_of}

pub same_key : (vault : TableId) (place n m q r : ℕ) (key : Badge Tally) → IsKey vault place n q key → n ≡ m → q ≡ r → IsKey vault place m r key
same_key vault place n m q r key is a b = (is.0, is.1 ∙ (λ i. key_of place (a i) (b i) ∷ []))

pub last_key : (vault : TableId) (place : ℕ) (keys : List (Badge Tally)) (key : Badge Tally) → AreKeys vault place (keys ++ key ∷ []) → AreKeys vault place keys × IsKey vault (place + length keys) 0 0 key
last_key vault place [] key are = (tt, subst (λ (k : ℕ). IsKey vault k 0 0 key) (omega arith) are.0)
last_key vault place (x ∷ xs) key are = let rest = last_key vault (suc place) xs key are.1 in ((are.0, rest.0), subst (λ (k : ℕ). IsKey vault k 0 0 key) (omega arith) rest.1)

length_last : (keys : List (Badge Tally)) (key : Badge Tally) → length (keys ++ key ∷ []) ≡ suc (length keys)
length_last [] key = refl
length_last (x ∷ xs) key = ap suc (length_last xs key)

pub keys_pop : (vault : TableId) (n : ℕ) (keys rest : List (Badge Tally)) (last : Option (Badge Tally)) (key : Badge Tally) → keys ≡ rest ++ option_to_list last → last ≡ Some key → length keys ≡ suc n → AreKeys vault 0 keys → AreKeys vault 0 rest × (length rest ≡ n) × IsKey vault n 0 0 key
keys_pop vault n keys rest last key is some long are = let all = is ∙ ap (λ (o : Option (Badge Tally)). rest ++ option_to_list o) some in let more = ap length all ∙ length_last rest key in let short : length rest ≡ n = omega (arith, more, long) in
    let both = last_key vault 0 rest key (subst (AreKeys vault 0) all are) in (both.0, short, subst (λ (k : ℕ). IsKey vault k 0 0 key) (omega (arith, short)) both.1)

-- What one call does to its seat, and what its key then knows. Assumes nothing.
--     has_step     a vault has the word that calls load
--     has_words    so it has words at all
--     knows        what the seat of a key knows
--     in_hand      what the seat has in hand once that was exchanged
--     shut_is      what the key knows once this lies in its place
--     emptied      what lay there, as a caller is told
--     counts_lying, round_lying     how many parts lie there, and of which round
--     option_map   what a caller is told, whether something lay there or not
use Rattle.std.proofs.Common.{◌≡◌, ℕ, suc, ◌<◌, List, [], ◌∷◌, refl, sym, ap, ◌∙◌, arith, Option, Some, None}
use Rattle.std.specs.Prelude.{MatchOption}
use Rattle.atomic_table.specs.Table.{Me, rest}
use Rattle.atomic_table.specs.Seated.{TableId}
use Rattle.vault.specs.declared.pile.Pile.{Pile}
use Rattle.vault.specs.declared.key.Tally.{Tally}
use Rattle.vault.specs.Rule.{Lies, count_of, key_of, round_of}
use Rattle.vault.proofs.Steps.{heads}

pub has_step : (t : TableId) → t.words ≡ 16 → 8 < t.words
has_step t many = omega (arith, many)

pub has_words : (t : TableId) → t.words ≡ 16 → 0 < t.words
has_words t many = omega (arith, many)

abbrev first_view : Tally → List Tally → Tally
first_view d [] = d
first_view d (x ∷ xs) = x

pub knows : (views : List Tally) (m v : Tally) → views ≡ m ∷ [] → views ≡ v ∷ [] → m ≡ v
knows views m v is was = ap (first_view v) (sym is ∙ was)

-- what a seat knows and has in hand
abbrev pub Sat : Type 0 → Type 0
Sat X = Me (Option (Pile X)) Tally

module _ {X : Type 0} where
  pub in_hand : (place : ℕ) (x y : Option (Pile X)) (m n : Sat X) (more : List (ℕ × Option (Pile X))) → m.1 ≡ (place, x) ∷ more → n ≡ (m.0, (place, y) ∷ rest m.1) → n.1 ≡ (place, y) ∷ more
  in_hand place x y m n more had now = ap (λ (z : Sat X). z.1) now ∙ ap (λ (cs : List (ℕ × Option (Pile X))). (place, y) ∷ rest cs) had

  -- what comes out of the place is what the step took
  pub first_is : (place : ℕ) (x y : Option (Pile X)) (cs more : List (ℕ × Option (Pile X))) → cs ≡ (place, x) ∷ more → cs ≡ (place, y) ∷ rest cs → y ≡ x
  first_is place x y cs more a b = heads y x place place (rest cs) more (sym b ∙ a)

  pub shut_is : (m s : Tally) (place : ℕ) (c : Option (Pile X)) → m ≡ s → s.key ≡ suc place → record m { out = 0; count = count_of c; round = round_of c m.round } ≡ key_of place (count_of c) (round_of c s.round)
  shut_is m s place c same key = λ i. record { key = (ap (λ (z : Tally). z.key) same ∙ key) i; out = 0; count = count_of c; round = round_of c (same i).round }

  pub emptied : (c : Option (Pile X)) (count round : ℕ) → Lies c count round → MatchOption c (count ≡ 0) (λ x. (x.part.count ≡ count) × (x.part.round ≡ round))
  emptied None count round h = h
  emptied (Some p) count round h = h

  pub counts_lying : (c : Option (Pile X)) (count round : ℕ) → Lies c count round → count_of c ≡ count
  counts_lying None count round h = sym h
  counts_lying (Some p) count round h = h.0

  pub round_lying : (c : Option (Pile X)) (count round : ℕ) → Lies c count round → round_of c round ≡ round
  round_lying None count round h = refl
  round_lying (Some p) count round h = h.1

pub option_map : {A : Type 0} {P Q : Type 0} {R S : A → Type 0} (o : Option A) → (P → Q) → ((x : A) → R x → S x) → MatchOption o P R → MatchOption o Q S
option_map None f h m = f m
option_map (Some x) f h m = h x m

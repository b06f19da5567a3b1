-- The blocks of a chain, one behind the other.
use Rattle.std.proofs.Common.{◌≡◌, ℕ, ℤ, ◌+◌, ◌-◌, ◌<◌, ◌≤◌, List, All, length, map, take, get_or, sym, ap, ◌∙◌, subst, arith, add-one, pos}
use mathlib.Core.Logic.{dite}
use native.Mathlib.Decide.{ℕ_discrete}
use Rattle.std.specs.Int.Signed.{<ℤ-≤ℤ_trans, clash_ℤ}
use Rattle.std.specs.List.{AllPairs}
use Rattle.std.proofs.lemmas.Int.{by_lt_z}
use Rattle.std.proofs.lemmas.List.{length-map, length-take, get_or-map, get_or-take}
use Rattle.std.proofs.lemmas.List.Elements.{All-more, All-from_get_or}
use Rattle.std.proofs.lemmas.List.Quantifiers.{all_pairs_push}
use Rattle.std.proofs.Math.Seq.{take-suc}
use Rattle.notify.specs.declared.block.Block.{Block}
use Rattle.notify.specs.Blocks.{Precedes, MayPrecede, MayFollow, HasNone, IsChain, block_at}

-- a block that is read where there is none
abbrev pub blank : Block
blank = record { id = 0; priority = pos 0 }

-- the second priority is between the others
may_through : (p q r : ℤ) → MayPrecede q r → MayPrecede p q → MayPrecede p r
may_through p q r qr pq = by_lt_z p r (λ pr. clash_ℤ (<ℤ-≤ℤ_trans pr qr) pq) (λ le. le)

module _ (ids : ℕ) (xs : List Block) (i : ℕ) (there : i < length xs) where
  -- one more block, which may stand behind those before it
  pub chain_more : length xs ≤ 15 → (get_or xs i blank).id < ids → All (λ b. Precedes b (get_or xs i blank)) (take i xs) → IsChain ids (take i xs) → IsChain ids (take (i + 1) xs)
  chain_more few known behind h = record {
    few = let t = length-take (i + 1) xs in omega (arith, t, few);
    known = All-more (λ b. b.id < ids) xs i blank there h.known known;
    ordered = subst (AllPairs Precedes) (sym (ap (λ j. take j xs) (add-one i) ∙ take-suc xs i blank there)) (all_pairs_push Precedes (take i xs) (get_or xs i blank) h.ordered behind);
  }

  -- each block of a chain may stand behind those before it
  pub chain_behind : IsChain ids xs → All (λ b. Precedes b (get_or xs i blank)) (take i xs)
  chain_behind h = All-from_get_or (λ b. Precedes b (get_or xs i blank)) (take i xs) blank (λ k lt.
      let t = length-take i xs in let less : k < i = omega (arith, t, lt) in
      subst (λ b. Precedes b (get_or xs i blank)) (sym (get_or-take i xs k blank less)) (h.ordered k i blank less there))

  pub chain_known : IsChain ids xs → (get_or xs i blank).id < ids
  chain_known h = h.known i blank there

  pub chain_new : IsChain ids xs → HasNone (get_or xs i blank).id (take i xs)
  chain_new h k d lt = (chain_behind h k d lt).other

  pub chain_follows : IsChain ids xs → MayFollow i xs
  chain_follows h d some = (h.ordered (i - 1) i d (omega (arith, some)) there).may

  -- where it may stand behind the last of them, and none has its id, it may stand behind all
  pub comes_behind : IsChain ids (take i xs) → MayFollow i xs → HasNone (get_or xs i blank).id (take i xs) → All (λ b. Precedes b (get_or xs i blank)) (take i xs)
  comes_behind h may new = All-from_get_or (λ b. Precedes b (get_or xs i blank)) (take i xs) blank (λ k lt.
      let t = length-take i xs in
      let last : MayPrecede (get_or (take i xs) (i - 1) blank).priority (get_or xs i blank).priority =
      subst (λ (b : Block). MayPrecede b.priority (get_or xs i blank).priority) (sym (get_or-take i xs (i - 1) blank (omega (arith, t, lt)))) (may blank (omega (arith, t, lt))) in record {
        may = dite (ℕ_discrete k (i - 1))
            (λ e. subst (λ n. MayPrecede (get_or (take i xs) n blank).priority (get_or xs i blank).priority) (sym e) last)
            (λ ne. may_through _ _ _ last (h.ordered k (i - 1) blank (omega (arith, t, lt, ne)) (omega (arith, t, lt, there))).may);
        other = new k blank lt;
      })

-- a block that is read of its word, where it lies
module _ (used : List ℕ) (i : ℕ) (lt : i < length used) where
  pub there_too : i < length (map block_at used)
  there_too = let n = length-map used block_at in omega (arith, n, lt)

  pub same_block : get_or (map block_at used) i blank ≡ block_at (get_or used i 0)
  same_block = get_or-map block_at used i 0 blank lt

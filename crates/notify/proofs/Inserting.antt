-- A block is put among the others, or taken out.
use Rattle.std.proofs.Common.{◌≡◌, ◌≢◌, ℕ, ◌+◌, ◌^◌, ◌<◌, ◌≤◌, ℤ, ◌≤ℤ◌, ◌<ℤ◌, List, ◌∷◌, ◌++◌, All, length, take, drop, get_or, FitsSigned, w32, refl, sym, ap, ◌∙◌, subst, arith, suc, get_or-take, get_or-drop}
use mathlib.Core.Logic.{dite}
use native.Mathlib.Decide.{ℕ_discrete}
use Rattle.std.specs.List.{HoldsAt, insert, remove}
use Rattle.std.specs.Int.Signed.{<ℤ-≤ℤ_trans, <ℤ_irrefl, clash_ℤ}
use Rattle.std.specs.Cmp.{int_chain}
use Rattle.std.proofs.lemmas.Int.{by_lt_z}
use Rattle.std.proofs.lemmas.List.{length-take, length-drop, length-append, take-append-drop}
use Rattle.std.proofs.Math.Seq.{drop-cons}
use Rattle.std.proofs.lemmas.List.Elements.{All-append, All-cons, All-take, All-drop, All-from_get_or}
use Rattle.std.proofs.lemmas.List.Kept.{AllPairs-cons}
use Rattle.std.proofs.lemmas.List.Quantifiers.{all_pairs_remove}
use Rattle.notify.specs.declared.block.Block.{Block}
use Rattle.notify.specs.Blocks.{MayPrecede, IsLower, Precedes, StandsAt, HasNone, Inserts, Removes, IsTextOf, text_of}
use Rattle.notify.specs.Insides.{IsKept}
use Rattle.notify.proofs.Chains.{blank}
use Rattle.notify.proofs.Pairs.{pairs_take, pairs_drop, pairs_append}

lower_still : (a b c : ℤ) → a ≤ℤ b → b <ℤ c → a <ℤ c
lower_still a b c ab bc = by_lt_z a c (λ ac. ac) (λ ca. clash_ℤ (<ℤ-≤ℤ_trans bc ca) ab)

at_most : (a b : ℤ) → a <ℤ b → a ≤ℤ b
at_most a b ab = by_lt_z b a (λ ba. absurd (<ℤ_irrefl (int_chain a b a ab ba))) (λ le. le)

module _ (ids : ℕ) (blocks : List Block) (kept : IsKept ids blocks) (b : Block) (place : ℕ) (within : place ≤ length blocks) (higher : All (λ x. MayPrecede x.priority b.priority) (take place blocks)) (next : place < length blocks → HoldsAt (λ x. IsLower x.priority b.priority) blocks place) where
  behind_lower : All (λ x. IsLower x.priority b.priority) (drop place blocks)
  behind_lower = All-from_get_or (λ x. IsLower x.priority b.priority) (drop place blocks) blank (λ k lt.
      let long = length-drop place blocks in
      subst (λ (x : Block). IsLower x.priority b.priority) (sym (get_or-drop place blocks k blank)) (dite (ℕ_discrete k 0)
      (λ e. subst (λ n. IsLower (get_or blocks n blank).priority b.priority) (same k e) (next (omega (arith, long, lt)) blank))
      (λ ne. lower_still _ _ _ (kept.chain.ordered place (place + k) blank (omega (arith, ne)) (omega (arith, long, lt))).may (next (omega (arith, long, lt)) blank))))
    where
      same : (k : ℕ) → k ≡ 0 → place ≡ place + k
      same k e = omega (arith, e)

  -- it stands behind all that may precede it
  pub inserted : Inserts b blocks (insert blocks place b)
  inserted = record { before = take place blocks; behind = drop place blocks; old_is = sym (take-append-drop place blocks); new_is = refl; higher = higher; lower = behind_lower }

  module _ (new_id : HasNone b.id blocks) (few : length blocks < 15) (low : b.id < ids) (fits : FitsSigned w32 b.priority) where
    first_precedes : All (λ x. All (Precedes x) (b ∷ drop place blocks)) (take place blocks)
    first_precedes = All-from_get_or (λ x. All (Precedes x) (b ∷ drop place blocks)) (take place blocks) blank (λ i lt.
        let long = length-take place blocks in let less : i < place = omega (arith, long, lt) in
        subst (λ (x : Block). All (Precedes x) (b ∷ drop place blocks)) (sym (get_or-take place blocks i blank less))
        (All-cons (Precedes (get_or blocks i blank)) b (drop place blocks)
        (record { may = subst (λ (x : Block). MayPrecede x.priority b.priority) (get_or-take place blocks i blank less) (higher i blank lt); other = new_id i blank (omega (arith, less, within)) })
        (All-from_get_or (Precedes (get_or blocks i blank)) (drop place blocks) blank (λ k lk.
        let rest = length-drop place blocks in
        subst (λ (x : Block). Precedes (get_or blocks i blank) x) (sym (get_or-drop place blocks k blank)) (kept.chain.ordered i (place + k) blank (omega (arith, less)) (omega (arith, rest, lk)))))))

    behind_precede : All (Precedes b) (drop place blocks)
    behind_precede = All-from_get_or (Precedes b) (drop place blocks) blank (λ k lt. record {
      may = at_most _ _ (behind_lower k blank lt);
      other = λ e. All-drop (λ x. x.id ≢ b.id) place blocks new_id k blank lt (sym e);
    })

    pub kept_inserted : IsKept ids (insert blocks place b)
    kept_inserted = record {
      small = kept.small;
      chain = record {
        few = long;
        known = All-append (λ x. x.id < ids) (take place blocks) (b ∷ drop place blocks) (All-take (λ x. x.id < ids) place blocks kept.chain.known) (All-cons (λ x. x.id < ids) b (drop place blocks) low (All-drop (λ x. x.id < ids) place blocks kept.chain.known));
        ordered = pairs_append Precedes (take place blocks) (b ∷ drop place blocks) (pairs_take Precedes place blocks kept.chain.ordered) (AllPairs-cons Precedes b (drop place blocks) behind_precede (pairs_drop Precedes place blocks kept.chain.ordered)) first_precedes;
      };
      fit = All-append (λ x. FitsSigned w32 x.priority) (take place blocks) (b ∷ drop place blocks) (All-take (λ x. FitsSigned w32 x.priority) place blocks kept.fit)
          (All-cons (λ x. FitsSigned w32 x.priority) b (drop place blocks) fits (All-drop (λ x. FitsSigned w32 x.priority) place blocks kept.fit));
    }
      where
        long : length (insert blocks place b) ≤ 15
        long = let l = length-append (take place blocks) (b ∷ drop place blocks) in let t = length-take place blocks in let d = length-drop place blocks in omega (arith, l, t, d, few, within)

-- the same where the blocks were read from a slice of them, and the new list is so far only equal
module _ (slice blocks new : List Block) (b : Block) (place : ℕ) (e : slice ≡ blocks) (is : new ≡ insert blocks place b) (within : place ≤ length slice)
    (higher : All (λ x. MayPrecede x.priority b.priority) (take place slice)) (next : place < length slice → HoldsAt (λ x. IsLower x.priority b.priority) slice place) (ids : ℕ) (kept : IsKept ids blocks) where
  here : place ≤ length blocks
  here = subst (λ (l : List Block). place ≤ length l) e within

  above : All (λ x. MayPrecede x.priority b.priority) (take place blocks)
  above = subst (λ (l : List Block). All (λ x. MayPrecede x.priority b.priority) (take place l)) e higher

  below : place < length blocks → HoldsAt (λ x. IsLower x.priority b.priority) blocks place
  below = subst (λ (l : List Block). place < length l → HoldsAt (λ x. IsLower x.priority b.priority) l place) e next

  pub entered : Inserts b blocks new
  entered = subst (λ (l : List Block). Inserts b blocks l) (sym is) (inserted ids blocks kept b place here above below)

  pub kept_entered : HasNone b.id blocks → length blocks < 15 → b.id < ids → FitsSigned w32 b.priority → IsKept ids new
  kept_entered new_id few low fits = subst (IsKept ids) (sym is) (kept_inserted ids blocks kept b place here above below new_id few low fits)

pub removed : (id place : ℕ) (blocks : List Block) → StandsAt place id blocks → Removes id blocks (remove blocks place)
removed id place blocks there = record {
  before = take place blocks;
  gone = get_or blocks place blank;
  behind = drop (suc place) blocks;
  id_is = there.id_is blank;
  old_is = sym (take-append-drop place blocks) ∙ ap (λ l. take place blocks ++ l) (drop-cons blocks place blank there.there);
  new_is = refl;
}

pub kept_removed : (ids place : ℕ) (blocks : List Block) → place < length blocks → IsKept ids blocks → IsKept ids (remove blocks place)
kept_removed ids place blocks there kept = record {
  small = kept.small;
  chain = record {
    few = let l = length-append (take place blocks) (drop (suc place) blocks) in let t = length-take place blocks in let d = length-drop (suc place) blocks in let f = kept.chain.few in omega (arith, l, t, d, f, there);
    known = All-append (λ x. x.id < ids) (take place blocks) (drop (suc place) blocks) (All-take (λ x. x.id < ids) place blocks kept.chain.known) (All-drop (λ x. x.id < ids) (suc place) blocks kept.chain.known);
    ordered = all_pairs_remove Precedes blocks place there kept.chain.ordered;
  };
  fit = All-append (λ x. FitsSigned w32 x.priority) (take place blocks) (drop (suc place) blocks) (All-take (λ x. FitsSigned w32 x.priority) place blocks kept.fit) (All-drop (λ x. FitsSigned w32 x.priority) (suc place) blocks kept.fit);
}

-- what is kept of a chain is a text, and its ids are small
pub small_ids : (ids : ℕ) (blocks : List Block) → IsKept ids blocks → All (λ b. b.id < 2 ^ 32) blocks
small_ids ids blocks kept k d lt = let low = kept.chain.known k d lt in let small = kept.small in omega (arith, low, small)

pub kept_text : (ids : ℕ) (words : List ℕ) (blocks : List Block) → IsKept ids blocks → words ≡ text_of blocks → IsTextOf ids words blocks
kept_text ids words blocks kept e = record { chain = kept.chain; fit = kept.fit; words_are = e }

-- What versions offer.
use Rattle.std.proofs.Common.{◌≡◌, ℕ, zero, suc, ◌+◌, ◌<◌, ◌≤◌, ◌≢◌, Bool, true, false, cond, eqb, List, [], ◌∷◌, ◌++◌, All, length, map, filter, get_or, refl, sym, ap, ◌∙◌, subst, eq-eqb, eqb-true, ne_eqb, arith, length-append}
use Rattle.std.proofs.lemmas.List.{length-map, map-append, get_or_append_left, get_or_push}
use Rattle.std.proofs.lemmas.List.Elements.{All-nil, All-cons, All-head, All-tail, filter-append}
use mathlib.Core.Logic.{dite}
use native.Mathlib.Decide.{dec_le, ℕ_discrete}
use Rattle.atomic_table.specs.Seated.{TableId}
use Rattle.sections.specs.Glossary.{Offer, Text, texts_of, offers_of, no_offer, offer_of, IsStart, IsKnown, vault_in, HasVault, HaveOneVault}

pub offers_of_append : (c : ℕ) (a b : List Text) → offers_of c (a ++ b) ≡ offers_of c a ++ offers_of c b
offers_of_append c a b = ap (map (λ t. t.offer)) (filter-append (λ t. eqb t.cell c) a b) ∙ map-append (λ t. t.offer) (filter (λ t. eqb t.cell c) a) (filter (λ t. eqb t.cell c) b)

-- as many as texts
pub offers_are : (c : ℕ) (texts : List Text) → length (offers_of c texts) ≡ length (texts_of c texts)
offers_are c texts = length-map (filter (λ t. eqb t.cell c) texts) (λ t. t.offer) ∙ sym (length-map (filter (λ t. eqb t.cell c) texts) (λ t. t.words))

-- the offer of a version stays
pub offer_stays : (c v : ℕ) (a b : List Text) → IsStart a b → IsKnown c v a → offer_of c v b ≡ offer_of c v a
offer_stays c v a b start known = let same = offers_are c a in ap (offer_of c v) start.whole ∙ (ap (λ l. get_or (no_offer ∷ l) v no_offer) (offers_of_append c a start.rest) ∙ get_or_append_left (no_offer ∷ offers_of c a) (offers_of c start.rest) no_offer v (omega (arith, known, same)))

-- and it stays known
pub known_later : (c v : ℕ) (a b : List Text) → IsStart a b → IsKnown c v a → IsKnown c v b
known_later c v a b start known = let x = offers_are c a in let y = offers_are c b in let z = ap (λ l. length (offers_of c l)) start.whole in let p = ap length (offers_of_append c a start.rest) in let q = length-append (offers_of c a) (offers_of c start.rest) in omega (arith, known, x, y, z, p, q)

one_offer : (c : ℕ) (t : Text) → t.cell ≡ c → offers_of c (t ∷ []) ≡ t.offer ∷ []
one_offer c t is = let f : Text → Offer = λ u. u.offer in let only : Bool → List Text = λ b. cond b (t ∷ []) [] in ap (λ b. map f (only b)) (eq-eqb t.cell c is)

-- what the version that was put last offers
pub put_offer : (c v : ℕ) (texts : List Text) (t : Text) → t.cell ≡ c → length (texts_of c texts) ≡ v → offer_of c (v + 1) (texts ++ t ∷ []) ≡ t.offer
put_offer c v texts t is long =
    let all : offers_of c (texts ++ t ∷ []) ≡ offers_of c texts ++ t.offer ∷ [] = offers_of_append c texts (t ∷ []) ∙ ap (λ l. offers_of c texts ++ l) (one_offer c t is) in let same = offers_are c texts in
    ap (λ l. get_or (no_offer ∷ l) (v + 1) no_offer) all ∙ get_or_push (no_offer ∷ offers_of c texts) t.offer no_offer (v + 1) (omega (arith, long, same))

-- The vault of a cell

offers_fit : (vault_of : ℕ → TableId) (keys : ℕ → ℕ) (c : ℕ) (texts : List Text) → All (HasVault vault_of keys) texts → All (λ (o : Offer). (o.keys ≤ keys c) × (0 < o.keys → vault_in o.vault ≡ vault_of c)) (offers_of c texts)
offers_fit vault_of keys c [] h = All-nil (λ (o : Offer). (o.keys ≤ keys c) × (0 < o.keys → vault_in o.vault ≡ vault_of c))
offers_fit vault_of keys c (t ∷ ts) h = go (eqb t.cell c) refl (offers_fit vault_of keys c ts (All-tail (HasVault vault_of keys) t ts h))
  where
    P : Offer → Type 0
    P o = (o.keys ≤ keys c) × (0 < o.keys → vault_in o.vault ≡ vault_of c)

    go : (b : Bool) → eqb t.cell c ≡ b → All P (offers_of c ts) → All P (offers_of c (t ∷ ts))
    go true e rec = let a = All-head (HasVault vault_of keys) t ts h in let same = eqb-true t.cell c e in
        subst (λ b. All P (map (λ u. u.offer) (cond b (t ∷ filter (λ u. eqb u.cell c) ts) (filter (λ u. eqb u.cell c) ts)))) (sym e) (All-cons P t.offer (offers_of c ts) (subst (λ z. t.offer.keys ≤ keys z) same a.few, λ more. a.vault more ∙ ap vault_of same) rec)
    go false e rec = subst (λ b. All P (map (λ u. u.offer) (cond b (t ∷ filter (λ u. eqb u.cell c) ts) (filter (λ u. eqb u.cell c) ts)))) (sym e) rec

at_or : {A : Type 0} (P : A → Type 0) (l : List A) (n : ℕ) (d : A) → All P l → P d → P (get_or l n d)
at_or P [] n d h base = base
at_or P (x ∷ xs) zero d h base = All-head P x xs h
at_or P (x ∷ xs) (suc n) d h base = at_or P xs n d (All-tail P x xs h) base

-- what a version offers are keys that were laid, of the cell's vault
pub offer_fits : (vault_of : ℕ → TableId) (keys : ℕ → ℕ) (c v : ℕ) (texts : List Text) → All (HasVault vault_of keys) texts → ((offer_of c v texts).keys ≤ keys c) × (0 < (offer_of c v texts).keys → vault_in (offer_of c v texts).vault ≡ vault_of c)
offer_fits vault_of keys c v texts h = let P : Offer → Type 0 = λ z. (z.keys ≤ keys c) × (0 < z.keys → vault_in z.vault ≡ vault_of c) in let none : P no_offer = (omega arith, λ more. absurd (omega (arith, more))) in
    at_or P (no_offer ∷ offers_of c texts) v no_offer (All-cons P no_offer (offers_of c texts) none (offers_fit vault_of keys c texts h)) none

pub no_vault : HaveOneVault []
no_vault = record {
  more = λ c v w le known. let e : v ≡ w = omega (arith, le, known) in subst (λ z. (offer_of c z []).keys ≤ (offer_of c w []).keys) (sym e) (omega arith);
  vault = λ c v w le known some_keys. let e : v ≡ w = omega (arith, le, known) in ap (λ z. vault_in (offer_of c z []).vault) (sym e);
}

-- of fewer texts
pub one_vault_start : (a b : List Text) → IsStart a b → HaveOneVault b → HaveOneVault a
one_vault_start a b start h = record {
  more = λ c v w le known. let first = keys_stay c v (omega (arith, le, known)) in let second = keys_stay c w known in let m = h.more c v w le (known_later c w a b start known) in omega (arith, first, second, m);
  vault = λ c v w le known some_keys. let first = offer_stays c v a b start (omega (arith, le, known)) in let same = keys_stay c v (omega (arith, le, known)) in
      ap (λ (o : Offer). vault_in o.vault) (sym (offer_stays c w a b start known)) ∙ (h.vault c v w le (known_later c w a b start known) (omega (arith, same, some_keys)) ∙ ap (λ (o : Offer). vault_in o.vault) first);
}
  where
    keys_stay : (c v : ℕ) → IsKnown c v a → (offer_of c v b).keys ≡ (offer_of c v a).keys
    keys_stay c v known = ap (λ (o : Offer). o.keys) (offer_stays c v a b start known)

-- of one more, which offers no fewer keys than those before it
module _ (c : ℕ) (texts : List Text) (t : Text) (of_cell : t.cell ≡ c) (most : (v : ℕ) → (offer_of c v texts).keys ≤ t.offer.keys) (vaults : (v : ℕ) → 0 < (offer_of c v texts).keys → vault_in t.offer.vault ≡ vault_in (offer_of c v texts).vault) (h : HaveOneVault texts) where
  abbrev longer : List Text
  longer = texts ++ t ∷ []

  abbrev After : Offer → Offer → Type 0
  After o p = (o.keys ≤ p.keys) × (0 < o.keys → vault_in p.vault ≡ vault_in o.vault)

  start : IsStart texts longer
  start = record { rest = t ∷ []; whole = refl }

  after_as : (o o' p p' : Offer) → o ≡ o' → p ≡ p' → After o' p' → After o p
  after_as o o' p p' e f a = subst (λ (z : Offer × Offer). After z.0 z.1) (λ i. (sym e i, sym f i)) a

  same_offer : (o : Offer) → After o o
  same_offer o = (omega arith, λ _. refl)

  counted : (d n : ℕ) → length (offers_of d (t ∷ [])) ≡ n → length (texts_of d longer) ≡ length (texts_of d texts) + n
  counted d n e = let x = offers_are d longer in let y = offers_are d texts in let p = ap length (offers_of_append d texts (t ∷ [])) in let r = length-append (offers_of d texts) (offers_of d (t ∷ [])) in omega (arith, x, y, p, r, e)

  old : (d v w : ℕ) → v ≤ w → IsKnown d w texts → After (offer_of d v longer) (offer_of d w longer)
  old d v w le known = after_as (offer_of d v longer) (offer_of d v texts) (offer_of d w longer) (offer_of d w texts) (offer_stays d v texts longer start (omega (arith, le, known))) (offer_stays d w texts longer start known) (h.more d v w le known, h.vault d v w le known)

  newest : (v : ℕ) → v ≤ length (texts_of c texts) → After (offer_of c v longer) (offer_of c (length (texts_of c texts) + 1) longer)
  newest v le = after_as (offer_of c v longer) (offer_of c v texts) (offer_of c (length (texts_of c texts) + 1) longer) t.offer (offer_stays c v texts longer start le) (put_offer c (length (texts_of c texts)) texts t of_cell refl) (most v, vaults v)

  new : (v w : ℕ) → v ≤ w → w ≡ length (texts_of c texts) + 1 → After (offer_of c v longer) (offer_of c w longer)
  new v w le is = dite (ℕ_discrete v w) (λ e. subst (λ z. After (offer_of c z longer) (offer_of c w longer)) (sym e) (same_offer (offer_of c w longer)))
      (λ ne. subst (λ z. After (offer_of c v longer) (offer_of c z longer)) (sym is) (newest v (omega (arith, le, is, ne))))

  none_else : (d : ℕ) → t.cell ≢ d → length (offers_of d (t ∷ [])) ≡ 0
  none_else d ne = let f : Text → Offer = λ u. u.offer in let only : Bool → List Text = λ b. cond b (t ∷ []) [] in ap (λ b. length (map f (only b))) (ne_eqb t.cell d ne)

  both : (d v w : ℕ) → v ≤ w → IsKnown d w longer → After (offer_of d v longer) (offer_of d w longer)
  both d v w le known = dite (dec_le w (length (texts_of d texts))) (λ before. old d v w le before)
      (λ behind. dite (ℕ_discrete c d)
      (λ e. subst (λ z. After (offer_of z v longer) (offer_of z w longer)) e
      (new v w le (let n = counted c 1 (ap length (one_offer c t of_cell)) in let k : w ≤ length (texts_of c longer) = subst (λ z. w ≤ length (texts_of z longer)) (sym e) known in
      let b : w ≤ length (texts_of c texts) → ⊥ = subst (λ z. w ≤ length (texts_of z texts) → ⊥) (sym e) behind in omega (arith, n, k, b))))
      (λ ne. let n = counted d 0 (none_else d (λ e. ne (sym of_cell ∙ e))) in absurd (behind (omega (arith, n, known)))))

  pub one_vault_put : HaveOneVault longer
  one_vault_put = record { more = λ d v w le known. (both d v w le known).0; vault = λ d v w le known. (both d v w le known).1 }

-- What a call of a writer over two steps on a key does to its seat.
use Rattle.std.specs.Prelude.{MatchOption}
use Rattle.std.proofs.Common.{◌≡◌, ℕ, ◌+◌, ◌*◌, ◌<◌, List, [], ◌∷◌, Option, Some, None, sym, ap, ◌∙◌, subst, arith}
use Rattle.atomic_table.specs.Table.{rest}
use Rattle.atomic_table.specs.Seated.{TableId}
use Rattle.vault.specs.Keys.{IsKey}
use Rattle.vault.specs.Rule.{count_of, round_of}
use Rattle.vault.specs.declared.pile.Pile.{Pile}
use Rattle.onedom.specs.declared.event.Event.{Event}
use Rattle.sections.specs.Glossary.{Slot, Plan, key_place, vault_place, Sat, hand_with, HandlesKey, HandlesBare}
use Rattle.sections.specs.declared.view.Right.TheVariants.{Shelf}
use Rattle.sections.proofs.Drawing.{exchanged}

-- the key of a slot of a cell opens the place of that slot
pub place_is : (c x p : ℕ) → x < 8 → vault_place (8 * c + x) p ≡ 8 * p + x
place_is c x p lx = omega (arith, lx)

pub ready_at : (vault other : TableId) (c x p count round : ℕ) (key : Slot) → x < 8 → vault ≡ other → IsKey vault (8 * p + x) count round key → IsKey other (vault_place (8 * c + x) p) count round key
ready_at vault other c x p count round key lx same k = subst (λ i. IsKey other i count round key) (sym (place_is c x p lx)) (k.0 ∙ same, k.1)

-- the seat once another key lies in the place that it took
pub handled_seat : (c x p : ℕ) (own : List ℕ) (h : List Event) (q : Plan) (m m1 m2 m3 : Sat) (blank key : Slot) (k : HandlesKey c x p own h q m m1) → m.1 ≡ [] → m2 ≡ (m1.0, (key_place (8 * c + x) p, blank) ∷ rest m1.1) → m3 ≡ (m2.0, (key_place (8 * c + x) p, key) ∷ rest m2.1)
    → m3 ≡ (record m.0 { right = Shelf c own h (record q { hand = Some (hand_with (8 * c + x) p k.key k.count k.round) }) }, (key_place (8 * c + x) p, key) ∷ [])
handled_seat c x p own h q m m1 m2 m3 blank key k bare first second = let i : ℕ = key_place (8 * c + x) p in
    let one = exchanged m1 m2 i k.key blank m.1 (ap (λ z. z.1) k.after) first in let two = exchanged m2 m3 i blank key m.1 (ap (λ z. z.1) one) second in
    two ∙ (λ j. (((ap (λ z. z.0) one ∙ ap (λ z. z.0) k.after) j), (i, key) ∷ bare j))

pub bare_seat : (c x p : ℕ) (own : List ℕ) (h : List Event) (q : Plan) (m m1 m2 : Sat) (key : Slot) (k : HandlesBare c x p own h q m m1) → m.1 ≡ [] → m2 ≡ (m1.0, (key_place (8 * c + x) p, key) ∷ rest m1.1)
    → m2 ≡ (record m.0 { right = Shelf c own h (record q { hand = Some (hand_with (8 * c + x) p k.blank 0 0) }) }, (key_place (8 * c + x) p, key) ∷ [])
bare_seat c x p own h q m m1 m2 key k bare first = let i : ℕ = key_place (8 * c + x) p in let one = exchanged m1 m2 i k.blank key m.1 (ap (λ z. z.1) k.after) first in
    one ∙ (λ j. ((ap (λ z. z.0) k.after) j, (i, key) ∷ bare j))

module _ {X : Type 0} where
  -- as many were taken as were there, and of that round
  pub counted : (pile : Option (Pile X)) (count round : ℕ) → MatchOption pile (count ≡ 0) (λ z. (z.part.count ≡ count) × (z.part.round ≡ round)) → count_of pile ≡ count
  counted None count round h = sym h
  counted (Some z) count round h = h.0

  pub rounded : (pile : Option (Pile X)) (count round : ℕ) → MatchOption pile (count ≡ 0) (λ z. (z.part.count ≡ count) × (z.part.round ≡ round)) → 0 < count_of pile → round_of pile 0 ≡ round
  rounded None count round h more = absurd (omega (arith, more))
  rounded (Some z) count round h more = h.1

-- What the steps on keys tell the seat of a processor that has the right to a section.
use Rattle.std.specs.Prelude.{◌≡◌, ℕ, ◌/◌, ◌%◌, ◌^◌, ◌<◌, ◌≤◌, List, [], ◌∷◌, All, Some, None}
use Rattle.atomic_table.specs.Table.{Step as TableStep}
use Rattle.vault.specs.Keys.{IsKey}
use Rattle.sseq.specs.declared.index.Index.{Index}
use Rattle.onedom.specs.Histories.{HasFound, IsBeginning}
use Rattle.sections.specs.Units.{In, drop_first}
use Rattle.sections.specs.Slots.{Slot}
use Rattle.sections.specs.declared.view.Lent.{Lent}
use Rattle.sections.specs.declared.view.Left.{Left}
use Rattle.sections.specs.declared.view.Hand.{Hand}
use Rattle.sections.specs.declared.view.Offer.{Offer}
use Rattle.sections.specs.declared.view.Moment.{Moment}
use Rattle.sections.specs.declared.view.Role.TheVariants.{Cpu}
use Rattle.sections.specs.declared.view.Right.TheVariants.{Section}
use Rattle.sections.specs.declared.view.View.{View}
use Rattle.sections.specs.Shelves.{IsKnown, offer_of}
use Rattle.sections.specs.Banks.{key_place, vault_place, is_unit, lent, vault_in}
use Rattle.sections.specs.Rule.{GoesOn, moment_of}
use Rattle.sections.specs.Plays.{IsSound, KnowsTexts, Sat}

abbrev pub hand_with : ℕ → ℕ → Slot → ℕ → ℕ → Hand
hand_with y p key count round = record { slot = y; processor = p; of = key; count = count; round = round }

-- what is seen covers what was seen before and all that was told. The right is new, and nothing else changes
pub record Catches (v w : View) : Type 0 where
  pub processors : w.processors ≡ v.processors
  pub role : w.role ≡ v.role
  pub mine : w.mine ≡ v.mine
  pub shown : w.shown ≡ v.shown
  pub told : w.told ≡ []
  pub done : w.done ≡ v.done
  pub since : IsBeginning v.seen w.seen
  pub later : v.changes ≤ w.changes
  pub covers : All (λ m. GoesOn m (moment_of w)) v.told
  pub texts : KnowsTexts v w
  pub sound : IsSound w.processors w.role w.mine w.seen w.changes w.texts

-- the seat has seen, or was told, that the section has found this version in the slot, and what the version offers
pub record KnowsFound (v : View) (s c x n : ℕ) (o : Offer) : Type 0 where
  pub moment : Moment
  pub among : In moment (moment_of v ∷ v.told)
  pub met : HasFound moment.history s c x n
  pub known : IsKnown c n moment.texts
  pub offer : offer_of c n moment.texts ≡ o

-- the key of slot y for processor p is in hand. Something lies there if the processor had some, of the round that was offered, and so are the parts of the slot that are out with the section: while one is, not all lie there
pub record Takes (t q p y : ℕ) (i : Index) (us : List Lent) (o : Offer) (m m' : Sat) : Type 0 where
  pub key : Slot
  pub count : ℕ
  pub round : ℕ
  pub opens : IsKey (vault_in o.vault) (vault_place y p) count round key
  pub some : p < o.each → 0 < count
  pub rounds : 0 < count → round ≡ o.round
  pub room : (u : Lent) → In u us → u.slot ≡ y → (count < 2 ^ 63) × (u.round ≡ o.round)
  pub catches : Catches m.0 m'.0
  pub right : m'.0.right ≡ Section t q i us (Some (hand_with y p key count round))
  pub carried : m'.1 ≡ (key_place y p, key) ∷ m.1

-- load of the word with the number of a slot that the section has found
abbrev pub took : TableStep Slot → Sat → ℕ → Sat → Type 0
took st m n m' = (t q p v : ℕ) (i : Index) (us : List Lent) (o : Offer) → m.0.role ≡ Cpu p → m.0.right ≡ Section t q i us None → KnowsFound m.0 t (st.word / 8) (st.word % 8) v o → Takes t q p st.word i us o m m'

-- what lay with the key in hand
abbrev pub left_with : Hand → Left
left_with h = record { slot = h.slot; count = h.count }

-- the key lies where it was, to as many parts, which the seat notes
abbrev pub returned : TableStep Slot → Sat → ℕ → Sat → Type 0
returned st m n m' = (t q : ℕ) (i : Index) (us : List Lent) (h : Hand) → m.0.right ≡ Section t q i us (Some h) → m' ≡ (record m.0 { right = Section t q i us None; left = Some (left_with h) }, [])

-- to one part less, which is with the section. What lay there before is told no more
abbrev pub drew : TableStep Slot → Sat → ℕ → Sat → Type 0
drew st m n m' = (t q : ℕ) (i : Index) (us : List Lent) (h : Hand) → m.0.right ≡ Section t q i us (Some h) → m' ≡ (record m.0 { right = Section t q i (lent t h.slot h.round ∷ us) None; left = None }, [])

-- to one part more, which was with the section
abbrev pub paid : TableStep Slot → Sat → ℕ → Sat → Type 0
paid st m n m' = (t q place count round : ℕ) (i : Index) (us : List Lent) (h : Hand) (key : Slot) → m.0.right ≡ Section t q i us (Some h) → m.1 ≡ (place, key) ∷ []
    → IsKey h.of.table_id (vault_place h.slot h.processor) count round key → m' ≡ (record m.0 { right = Section t q i (drop_first (is_unit h.slot round) us) None; left = None }, [])

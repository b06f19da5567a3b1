-- What the steps on keys tell the seat that has the right to a cell.
use Rattle.std.specs.Prelude.{◌≡◌, ℕ, suc, if◌then◌else◌, ◌+◌, ◌-◌, ◌*◌, ◌<◌, ◌≤◌, ◌==◌, List, [], ◌∷◌, Some, None}
use Rattle.atomic_table.specs.Table.{Step as TableStep}
use Rattle.vault.specs.Keys.{IsKey}
use Rattle.onedom.specs.declared.event.Event.{Event}
use Rattle.sections.specs.Slots.{Slot}
use Rattle.sections.specs.declared.view.Hand.{Hand}
use Rattle.sections.specs.declared.view.Bank.{Bank}
use Rattle.sections.specs.declared.view.Plan.{Plan}
use Rattle.sections.specs.declared.view.Right.TheVariants.{Shelf}
use Rattle.sections.specs.Banks.{key_place, vault_place, bank_of, with_bank, vault_in}
use Rattle.sections.specs.Taking.{hand_with}
use Rattle.sections.specs.Plays.{Sat}

-- the key of slot x of the cell for processor p is in hand. No more lie there than there are, if any of their round, and none where that is known
pub record HandlesKey (c x p : ℕ) (own : List ℕ) (h : List Event) (q : Plan) (m m' : Sat) : Type 0 where
  pub key : Slot
  pub count : ℕ
  pub round : ℕ
  pub opens : IsKey (vault_in q.vault) (8 * p + x) count round key
  pub few : count ≤ (bank_of q x).laid
  pub rounds : 0 < count → round ≡ (bank_of q x).round
  pub after : m' ≡ (record m.0 { right = Shelf c own h (record q { hand = Some (hand_with (8 * c + x) p key count round) }) }, (key_place (8 * c + x) p, key) ∷ m.1)

-- load of the word with the number of a slot that nobody can read
abbrev pub handled : ℕ → TableStep Slot → Sat → ℕ → Sat → Type 0
handled p st m n m' = (c x : ℕ) (own : List ℕ) (h : List Event) (q : Plan) → m.0.right ≡ Shelf c own h q → x < 8 → st.word ≡ 8 * c + x → HandlesKey c x p own h q m m'

-- so many parts were laid with the key of this processor, which may be the next one with some
abbrev pub bank_laid : Bank → ℕ → ℕ → ℕ → Bank
bank_laid b p more round = record { laid = b.laid + more; round = round; each = if p == b.each then suc p else b.each; emptied = 0 }

abbrev pub laid_more : TableStep Slot → Sat → ℕ → Sat → Type 0
laid_more st m n m' = (c x place count round : ℕ) (own : List ℕ) (h : List Event) (q : Plan) (g : Hand) (key : Slot) → m.0.right ≡ Shelf c own h q → q.hand ≡ Some g → x < 8 → g.slot ≡ 8 * c + x → m.1 ≡ (place, key) ∷ [] → IsKey g.of.table_id (vault_place g.slot g.processor) count round key
    → m' ≡ (record m.0 { right = Shelf c own h (with_bank q x (bank_laid (bank_of q x) g.processor (count - g.count) round)) }, [])

-- all that lay there was taken. The keys of this processor and of those before it have none now
abbrev pub bank_emptied : Bank → ℕ → ℕ → Bank
bank_emptied b p count = record b { laid = b.laid - count; each = 0; emptied = suc p }

-- once that is so of all processors, there are no parts of the slot
abbrev pub emptied : ℕ → TableStep Slot → Sat → ℕ → Sat → Type 0
emptied processors st m n m' = (c x : ℕ) (own : List ℕ) (h : List Event) (q : Plan) (g : Hand) → m.0.right ≡ Shelf c own h q → q.hand ≡ Some g → x < 8 → g.slot ≡ 8 * c + x
    → (m' ≡ (record m.0 { right = Shelf c own h (with_bank q x (bank_emptied (bank_of q x) g.processor g.count)) }, [])) × (suc g.processor ≡ processors → (bank_of q x).laid ≡ g.count)

-- a place with no key yet is in hand
pub record HandlesBare (c x p : ℕ) (own : List ℕ) (h : List Event) (q : Plan) (m m' : Sat) : Type 0 where
  pub blank : Slot
  pub after : m' ≡ (record m.0 { right = Shelf c own h (record q { hand = Some (hand_with (8 * c + x) p blank 0 0) }) }, (key_place (8 * c + x) p, blank) ∷ m.1)

abbrev pub handled_bare : ℕ → TableStep Slot → Sat → ℕ → Sat → Type 0
handled_bare p st m n m' = (c x : ℕ) (own : List ℕ) (h : List Event) (q : Plan) → m.0.right ≡ Shelf c own h q → x < 8 → st.word ≡ 8 * c + x → q.keys ≡ 8 * p + x → HandlesBare c x p own h q m m'

-- its key lies there
abbrev pub equipped : TableStep Slot → Sat → ℕ → Sat → Type 0
equipped st m n m' = (c place : ℕ) (own : List ℕ) (h : List Event) (q : Plan) (g : Hand) (key : Slot) → m.0.right ≡ Shelf c own h q → q.hand ≡ Some g → m.1 ≡ (place, key) ∷ [] → m' ≡ (record m.0 { right = Shelf c own h (record q { keys = suc q.keys; vault = Some key; hand = None }) }, [])

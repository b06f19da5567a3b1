-- What laying parts, and taking them back, does to the seat of the one that writes a cell.
use Rattle.std.specs.Prelude.{◌≡◌, ℕ, suc, ◌+◌, ◌*◌, ◌<◌, ◌≤◌, List, [], ◌∷◌, Option, Some, None}
use Rattle.atomic_table.specs.Seated.{TableId}
use Rattle.vault.specs.declared.pile.Pile.{Pile}
use Rattle.vault.specs.Rule.{count_of, round_of, key_of}
use Rattle.onedom.specs.declared.event.Event.{Event}
use Rattle.sections.specs.Slots.{Slot}
use Rattle.sections.specs.declared.view.Bounds.{Bounds}
use Rattle.sections.specs.declared.view.Plan.{Plan}
use Rattle.sections.specs.declared.view.Right.TheVariants.{Shelf}
use Rattle.sections.specs.Banks.{bank_of, with_bank, vault_in}
use Rattle.sections.specs.Laying.{bank_laid, bank_emptied}
use Rattle.sections.specs.Seats.{DomainSeat}

-- the seat has the right to the cell, whose vault this is, and has laid the key of this slot for this processor
pub record CanHandle (bounds : Bounds) (table vault : TableId) (cell slot p : ℕ) (pen : DomainSeat) : Type 0 where
  pub seated : pen.table_id ≡ table
  pub some : 8 * cell + slot < table.words
  pub cells : bounds.cells ≤ 4
  pub bare : pen.me.1 ≡ []
  pub own : List ℕ
  pub upto : List Event
  pub plan : Plan
  pub right : pen.me.0.right ≡ Shelf cell own upto plan
  pub free : plan.hand ≡ None
  pub low : slot < 8
  pub inside : cell < 4
  pub there : p < bounds.processors
  pub keyed : 8 * p + slot < plan.keys
  pub vault_is : vault_in plan.vault ≡ vault

-- so many more parts of this round may be laid there
abbrev pub LaysFew : ℕ → ℕ → ℕ → DomainSeat → Type 0
LaysFew slot more round pen = (c : ℕ) (own : List ℕ) (h : List Event) (q : Plan) → pen.me.0.right ≡ Shelf c own h q → (0 < more) × ((bank_of q slot).laid + more ≤ 9223372036854775808) × (0 < (bank_of q slot).laid → round ≡ (bank_of q slot).round)

-- and are
pub record Lays (cell slot p more round : ℕ) (pen pen' : DomainSeat) : Type 0 where
  pub same_table : pen'.table_id ≡ pen.table_id
  pub after : (own : List ℕ) (h : List Event) (q : Plan) → pen.me.0.right ≡ Shelf cell own h q → pen'.me ≡ (record pen.me.0 { right = Shelf cell own h (with_bank q slot (bank_laid (bank_of q slot) p more round)) }, [])

-- the keys of the processors before this one have no parts
abbrev pub IsNext : ℕ → ℕ → DomainSeat → Type 0
IsNext slot p pen = (c : ℕ) (own : List ℕ) (h : List Event) (q : Plan) → pen.me.0.right ≡ Shelf c own h q → (bank_of q slot).emptied ≡ p

-- so many parts were there, and are with the caller now. Behind the last processor's key all are
pub record Empties {X : Type 0} (processors cell slot p : ℕ) (pen pen' : DomainSeat) (pile : Option (Pile X)) : Type 0 where
  pub same_table : pen'.table_id ≡ pen.table_id
  pub after : (own : List ℕ) (h : List Event) (q : Plan) → pen.me.0.right ≡ Shelf cell own h q → pen'.me ≡ (record pen.me.0 { right = Shelf cell own h (with_bank q slot (bank_emptied (bank_of q slot) p (count_of pile))) }, [])
  pub few : (own : List ℕ) (h : List Event) (q : Plan) → pen.me.0.right ≡ Shelf cell own h q → (count_of pile ≤ (bank_of q slot).laid) × (0 < count_of pile → round_of pile 0 ≡ (bank_of q slot).round)
  pub all : (own : List ℕ) (h : List Event) (q : Plan) → pen.me.0.right ≡ Shelf cell own h q → suc p ≡ processors → (bank_of q slot).laid ≡ count_of pile

-- Keys

-- the seat has the right to the cell, and that of this slot for this processor is the next key to be laid there
pub record CanEquip (bounds : Bounds) (table : TableId) (cell slot p : ℕ) (pen : DomainSeat) : Type 0 where
  pub seated : pen.table_id ≡ table
  pub some : 8 * cell + slot < table.words
  pub cells : bounds.cells ≤ 4
  pub bare : pen.me.1 ≡ []
  pub own : List ℕ
  pub upto : List Event
  pub plan : Plan
  pub right : pen.me.0.right ≡ Shelf cell own upto plan
  pub free : plan.hand ≡ None
  pub low : slot < 8
  pub inside : cell < 4
  pub there : p < bounds.processors
  pub next : plan.keys ≡ 8 * p + slot

-- nothing lies with it yet, and it is of the vault of those before it
abbrev pub IsNextKey : ℕ → ℕ → Slot → DomainSeat → Type 0
IsNextKey slot p key pen = (key.views ≡ key_of (8 * p + slot) 0 0 ∷ []) × ((c : ℕ) (own : List ℕ) (h : List Event) (q : Plan) → pen.me.0.right ≡ Shelf c own h q → 0 < q.keys → key.table_id ≡ vault_in q.vault)

pub record Equips (cell : ℕ) (key : Slot) (pen pen' : DomainSeat) : Type 0 where
  pub same_table : pen'.table_id ≡ pen.table_id
  pub after : (own : List ℕ) (h : List Event) (q : Plan) → pen.me.0.right ≡ Shelf cell own h q → pen'.me ≡ (record pen.me.0 { right = Shelf cell own h (record q { keys = suc q.keys; vault = Some key; hand = None }) }, [])

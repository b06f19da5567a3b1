-- What the writer of a cell lays there, and takes back: the keys of the cell's vault, and parts of boxes.
use Rattle.std.specs.Prelude.{◌≡◌, ℕ, suc, ◌+◌, ◌*◌, ◌^◌, ◌<◌, ◌≤◌, List, [], ◌∷◌, Option, Some}
use Rattle.atomic_table.specs.Seated.{TableId}
use Rattle.vault.specs.declared.pile.Pile.{Pile}
use Rattle.vault.specs.Rule.{count_of, round_of, key_of}
use Rattle.sections.specs.Slots.{Slot}
use Rattle.sections.specs.declared.view.Bank.{Bank}
use Rattle.sections.specs.declared.view.Text.{Text}
use Rattle.sections.specs.Shelves.{offer_of, IsKnown}
use Rattle.sections.specs.Banks.{bank_of, with_bank, vault_in}
use Rattle.sections.specs.Laying.{bank_laid, bank_emptied}
use Rattle.sections.specs.WriterViews.{WriterView}

-- what there is of a slot: how many parts were laid and not taken back, of which round, and how many processors' keys have some, or none, from 0 on
abbrev pub bank_in : WriterView → ℕ → Bank
bank_in w slot = bank_of w.plan slot

abbrev pub vault_of : WriterView → TableId
vault_of w = vault_in w.plan.vault

-- the same writer, but for this slot's parts
abbrev pub with_bank_in : WriterView → ℕ → Bank → WriterView
with_bank_in w slot b = record w { plan = with_bank w.plan slot b }

-- Keys

-- this is the next key to be laid, of the vault of those before it. Nothing lies with it yet
pub record IsNextKey (processors p slot : ℕ) (key : Slot) (w : WriterView) : Type 0 where
  pub there : p < processors
  pub low : slot < 8
  pub next : w.plan.keys ≡ 8 * p + slot
  pub empty : key.views ≡ key_of (8 * p + slot) 0 0 ∷ []
  pub of : 0 < w.plan.keys → key.table_id ≡ vault_of w

-- it is laid, and nothing else has changed
abbrev pub LaysKey : Slot → WriterView → WriterView → Type 0
LaysKey key w w' = w' ≡ record w { plan = record w.plan { keys = suc w.plan.keys; vault = Some key } }

-- Parts

-- the key of the slot for this processor was laid. It is of this vault
pub record HasKey (processors p slot : ℕ) (vault : TableId) (w : WriterView) : Type 0 where
  pub there : p < processors
  pub laid : 8 * p + slot < w.plan.keys
  pub of : vault_of w ≡ vault

-- so many parts of this round may come to those that are there: all of them are of one box, and a box has 2 ^ 63 parts
pub record HasRoom (slot count round : ℕ) (w : WriterView) : Type 0 where
  pub most : (bank_in w slot).laid + count ≤ 2 ^ 63
  pub one_round : 0 < (bank_in w slot).laid → round ≡ (bank_in w slot).round

-- they are there too, with the key of this processor, and nothing else has changed
abbrev pub LaysParts : ℕ → ℕ → ℕ → ℕ → WriterView → WriterView → Type 0
LaysParts p slot count round w w' = w' ≡ with_bank_in w slot (bank_laid (bank_in w slot) p count round)

-- those at the processors before this one were taken back
abbrev pub IsNextToCollect : ℕ → ℕ → WriterView → Type 0
IsNextToCollect p slot w = (bank_in w slot).emptied ≡ p

-- these were there at the processor, and are with the caller now: no more than were laid, and of their round. At the last processor they are all that is left
pub record Collects {X : Type 0} (processors p slot : ℕ) (w w' : WriterView) (pile : Option (Pile X)) : Type 0 where
  pub after : w' ≡ with_bank_in w slot (bank_emptied (bank_in w slot) p (count_of pile))
  pub few : count_of pile ≤ (bank_in w slot).laid
  pub one_round : 0 < count_of pile → round_of pile 0 ≡ (bank_in w slot).round
  pub all : suc p ≡ processors → count_of pile ≡ (bank_in w slot).laid

-- What versions offer

-- one of these versions of the cell was put by a writer that had laid so many keys of this vault, at least
pub record KnowsVault (cell keys : ℕ) (vault : TableId) (texts : List Text) : Type 0 where
  pub version : ℕ
  pub known : IsKnown cell version texts
  pub some : 0 < keys
  pub laid : keys ≤ (offer_of cell version texts).keys
  pub of : vault_in (offer_of cell version texts).vault ≡ vault

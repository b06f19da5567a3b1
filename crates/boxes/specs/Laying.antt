-- What laying the parts of a box, and collecting them, does to the cell's writer.
use Rattle.std.specs.Prelude.{◌≡◌, ◌≢◌, ℕ, ◌+◌, ◌*◌, ◌^◌, ◌<◌, ◌≤◌, ◌⊎◌, None, length}
use Rattle.atomic_table.specs.Seated.{TableId}
use Rattle.parts.specs.declared.part.Part.{Part}
use Rattle.sections.specs.declared.writer.Standing.TheVariants.{Blank}
use Rattle.sections.specs.Boxes.{bank_in, vault_of}
use Rattle.sections.specs.WriterViews.{WriterView, SlotView}
use Rattle.sections.specs.Writers.{GivesAt, standing_of}
use Rattle.boxes.specs.Boxes.{BoxWriterView, stored_at}

-- how many parts of a box lie at each processor
abbrev pub share : ℕ
share = 2 ^ 46

-- the writer has laid all keys of this vault, for so many processors
pub record HasKeys (processors : ℕ) (vault : TableId) (w : WriterView) : Type 0 where
  pub some : 1 ≤ processors
  pub most : processors < 2 ^ 16
  pub keys : w.plan.keys ≡ 8 * processors
  pub of : vault_of w ≡ vault
  pub eight : length w.plan.banks ≡ 8

-- the keys are the same, and so are the parts of each other slot
pub record IsElsewhere (x : ℕ) (w w' : WriterView) : Type 0 where
  pub keys : w'.plan.keys ≡ w.plan.keys
  pub of : vault_of w' ≡ vault_of w
  pub eight : length w'.plan.banks ≡ length w.plan.banks
  pub others : (y : ℕ) → y ≢ x → bank_in w' y ≡ bank_in w y

-- the same writer, but for the parts of this slot
pub record IsSameBut (x : ℕ) (w w' : WriterView) : Type 0 where
  pub rest : w' ≡ record w { plan = w'.plan }
  pub elsewhere : IsElsewhere x w w'

-- so many parts were laid at each of the processors below this one
pub record LaysSome (p x round : ℕ) (w w' : WriterView) : Type 0 where
  pub same : IsSameBut x w w'
  pub laid : (bank_in w' x).laid ≡ p * share
  pub each : (bank_in w' x).each ≡ p
  pub round_is : 0 < p → (bank_in w' x).round ≡ round
  pub none_taken : 0 < p → (bank_in w' x).emptied ≡ 0

-- the parts at the processors below this one came to those that were at hand
pub record CollectsSome {X : Type 0} (processors p x : ℕ) (w w' : WriterView) (had all : Part X) : Type 0 where
  pub same : IsSameBut x w w'
  pub next : (bank_in w' x).emptied ≡ p
  pub round_is : (bank_in w' x).round ≡ (bank_in w x).round
  pub sum : (bank_in w' x).laid + all.count ≡ (bank_in w x).laid + had.count
  pub part : all ≡ record had { count = all.count }
  pub last : p ≡ processors → (bank_in w' x).laid ≡ 0
  pub none : 0 < p → (bank_in w' x).each ≡ 0

module _ {V A : Type 0} where
  -- this slot was blank, and without a box: it was given out
  pub record TakesFree (x : ℕ) (w w' : BoxWriterView V A) (s : SlotView) : Type 0 where
    pub none : stored_at w x ≡ None
    pub gives : GivesAt x w.writer w'.writer s
    pub rest : w' ≡ record w { writer = w'.writer }

  -- it is not
  abbrev pub IsNotFree : BoxWriterView V A → ℕ → Type 0
  IsNotFree w x = (stored_at w x ≢ None) ⊎ (standing_of w.writer x ≢ Blank)

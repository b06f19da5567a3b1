-- Writers whose parts may be taken, and processors that may borrow them.
use Rattle.std.specs.Prelude.{◌≡◌, ℕ, ◌<◌, length}
use Rattle.atomic_table.specs.Seated.{TableId}
use Rattle.sections.specs.Boxes.{bank_in, vault_of, KnowsVault}
use Rattle.sections.specs.Views.{CpuView}
use Rattle.sections.specs.Words.{cells_in}
use Rattle.sections.specs.WriterViews.{WriterView}

-- sixteen keys, of this vault
pub record HasAllKeys (vault : TableId) (w : WriterView) : Type 0 where
  pub laid : w.plan.keys ≡ 16
  pub of : vault_of w ≡ vault
  pub eight : length w.plan.banks ≡ 8

-- the same writer. It begins each slot that it gives out with processor 0
pub record IsReady (vault : TableId) (w w' : WriterView) : Type 0 where
  pub domain : w'.domain ≡ w.domain
  pub keys : HasAllKeys vault w'
  pub fresh : (x : ℕ) → (bank_in w' x).emptied ≡ 0

-- one of two processors, which knows that a version was put in cell 0 with all keys of this vault
pub record CanSee (vault : TableId) (c : CpuView) : Type 0 where
  pub two : c.processors ≡ 2
  pub cell : 0 < cells_in c.domain
  pub knows : KnowsVault 0 16 vault c.texts

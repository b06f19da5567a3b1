-- What changing a table does.
use Rattle.std.specs.Prelude.{◌≡◌, ◌≢◌, ℕ, ◌+◌, None, List}
use Rattle.sections.specs.WriterViews.{WriterView, SlotView}
use Rattle.domain.specs.Views.{CpuView}
use Rattle.domain.specs.Publishing.{Claims, FindsNone, Puts}
use Rattle.plugs.specs.declared.refusals.InstallRefusal.{InstallRefusal}
use Rattle.plugs.specs.declared.refusals.InstallRefusal.TheVariants as install
use Rattle.plugs.specs.declared.refusals.RemoveRefusal.{RemoveRefusal}
use Rattle.plugs.specs.declared.refusals.RemoveRefusal.TheVariants as remove
use Rattle.plugs.specs.Tables.{plug_of, IsFull, Maps, Unmaps, text_of}
use Rattle.plugs.specs.Views.{TableState}

module _ {J : Type 0} where
  -- a blank slot was claimed, and put with these words as the version that follows
  pub record Publishes (text : List ℕ) (version : ℕ) (w : WriterView) (c : CpuView J) (w' : WriterView) (c' : CpuView J) : Type 0 where
    pub slot : SlotView
    pub claimed : WriterView
    pub at : CpuView J
    pub claims : Claims slot w c claimed at
    pub puts : Puts slot.slot text claimed at w' c'
    pub version_is : version ≡ w.version + 1
    pub current : w'.version ≡ version

  -- Installing

  -- the key has the plug, and the table was published
  pub record Installs (key plug version : ℕ) (t : TableState) (c : CpuView J) (t' : TableState) (c' : CpuView J) : Type 0 where
    pub maps : Maps key plug t.rows t'.rows
    pub publishes : Publishes (text_of t'.rows) version t.writer c t'.writer c'

  -- the table is as it was, and no slot was free. There was room for the key
  pub record LacksSlotFor (key : ℕ) (t : TableState) (c : CpuView J) (t' : TableState) (c' : CpuView J) : Type 0 where
    pub room : ¬ IsFull key t.rows
    pub rows : t'.rows ≡ t.rows
    pub none : FindsNone t.writer c t'.writer c'

  -- a full table comes before a slot that is missing, and neither is for want of memory
  abbrev pub IsNotInstalled : ℕ → InstallRefusal → TableState → CpuView J → TableState → CpuView J → Type 0
  IsNotInstalled key install.Full t c t' c' = IsFull key t.rows × (t' ≡ t) × (c' ≡ c)
  IsNotInstalled key install.NoSlot t c t' c' = LacksSlotFor key t c t' c'
  IsNotInstalled key install.Memory t c t' c' = ⊥

  -- Removing

  -- the key had a plug and has none, and the table was published
  pub record Removes (key version : ℕ) (t : TableState) (c : CpuView J) (t' : TableState) (c' : CpuView J) : Type 0 where
    pub there : plug_of t.rows key ≢ None
    pub unmaps : Unmaps key t.rows t'.rows
    pub publishes : Publishes (text_of t'.rows) version t.writer c t'.writer c'

  -- the table is as it was, and no slot was free. The key has a plug
  pub record KeepsForWantOfSlot (key : ℕ) (t : TableState) (c : CpuView J) (t' : TableState) (c' : CpuView J) : Type 0 where
    pub there : plug_of t.rows key ≢ None
    pub rows : t'.rows ≡ t.rows
    pub none : FindsNone t.writer c t'.writer c'

  abbrev pub IsNotRemoved : ℕ → RemoveRefusal → TableState → CpuView J → TableState → CpuView J → Type 0
  IsNotRemoved key remove.NotThere t c t' c' = (plug_of t.rows key ≡ None) × (t' ≡ t) × (c' ≡ c)
  IsNotRemoved key remove.NoSlot t c t' c' = KeepsForWantOfSlot key t c t' c'

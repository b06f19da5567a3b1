-- How a chain is changed.
use Rattle.std.specs.Prelude.{◌≡◌, ℕ, ◌<◌, List, length}
use Rattle.sections.specs.WriterViews.{WriterView, SlotView}
use Rattle.domain.specs.Views.{CpuView}
use Rattle.domain.specs.Publishing as publishing
use Rattle.domain.specs.Publishing.{Claims, FindsNone}
use Rattle.notify.specs.declared.block.Block.{Block}
use Rattle.notify.specs.declared.refusals.RegisterRefusal.{RegisterRefusal}
use Rattle.notify.specs.declared.refusals.RegisterRefusal.TheVariants as register
use Rattle.notify.specs.declared.refusals.UnregisterRefusal.{UnregisterRefusal}
use Rattle.notify.specs.declared.refusals.UnregisterRefusal.TheVariants as unregister
use Rattle.notify.specs.Blocks.{text_of, StandsAt, HasNone, Inserts, Removes}
use Rattle.notify.specs.Chains.{ChainState}

-- the same chain, in the same cell
pub record IsSameChain (s s' : ChainState) : Type 0 where
  pub domain : s'.writer.domain ≡ s.writer.domain
  pub cell : s'.writer.cell ≡ s.writer.cell
  pub ids : s'.ids ≡ s.ids

-- a block has this id
pub record Has (id : ℕ) (blocks : List Block) : Type 0 where
  pub place : ℕ
  pub there : StandsAt place id blocks

module _ {J : Type 0} where
  -- a slot was free, and the text of the blocks was put there
  pub record Puts (s : ChainState) (c : CpuView J) (s' : ChainState) (c' : CpuView J) : Type 0 where
    pub slot : SlotView
    pub given : WriterView
    pub at : CpuView J
    pub finds : Claims slot s.writer c given at
    pub publishes : publishing.Puts slot.slot (text_of s'.blocks) given at s'.writer c'

  -- the block is in the chain, in its place, and all blocks are the next version
  pub record Registers (block : Block) (s : ChainState) (c : CpuView J) (s' : ChainState) (c' : CpuView J) : Type 0 where
    pub new_id : HasNone block.id s.blocks
    pub few : length s.blocks < 15
    pub inserts : Inserts block s.blocks s'.blocks
    pub puts : Puts s c s' c'

  -- the block is gone, and the others are the next version
  pub record Unregisters (id : ℕ) (s : ChainState) (c : CpuView J) (s' : ChainState) (c' : CpuView J) : Type 0 where
    pub removes : Removes id s.blocks s'.blocks
    pub puts : Puts s c s' c'

  -- nothing was done
  pub record DoesNothing (s : ChainState) (c : CpuView J) (s' : ChainState) (c' : CpuView J) : Type 0 where
    pub chain : s' ≡ s
    pub cpu : c' ≡ c

  -- no slot was free, and the blocks are those that were there
  pub record HasNoSlot (s : ChainState) (c : CpuView J) (s' : ChainState) (c' : CpuView J) : Type 0 where
    pub finds : FindsNone s.writer c s'.writer c'
    pub blocks : s'.blocks ≡ s.blocks

  pub record IsThere (id : ℕ) (s : ChainState) (c : CpuView J) (s' : ChainState) (c' : CpuView J) : Type 0 where
    pub has : Has id s.blocks
    pub nothing : DoesNothing s c s' c'

  pub record IsFull (id : ℕ) (s : ChainState) (c : CpuView J) (s' : ChainState) (c' : CpuView J) : Type 0 where
    pub new_id : HasNone id s.blocks
    pub full : length s.blocks ≡ 15
    pub nothing : DoesNothing s c s' c'

  pub record HasNoSlotFor (id : ℕ) (s : ChainState) (c : CpuView J) (s' : ChainState) (c' : CpuView J) : Type 0 where
    pub new_id : HasNone id s.blocks
    pub few : length s.blocks < 15
    pub none : HasNoSlot s c s' c'

  pub record IsNotThere (id : ℕ) (s : ChainState) (c : CpuView J) (s' : ChainState) (c' : CpuView J) : Type 0 where
    pub has_none : HasNone id s.blocks
    pub nothing : DoesNothing s c s' c'

  pub record HasNoSlotWithout (id : ℕ) (s : ChainState) (c : CpuView J) (s' : ChainState) (c' : CpuView J) : Type 0 where
    pub has : Has id s.blocks
    pub none : HasNoSlot s c s' c'

  -- why a block is not registered: the first that holds. Memory is never wanting
  abbrev pub RefusesRegister : ℕ → RegisterRefusal → ChainState → CpuView J → ChainState → CpuView J → Type 0
  RefusesRegister id register.There s c s' c' = IsThere id s c s' c'
  RefusesRegister id register.Full s c s' c' = IsFull id s c s' c'
  RefusesRegister id register.NoSlot s c s' c' = HasNoSlotFor id s c s' c'
  RefusesRegister id register.Memory s c s' c' = ⊥

  -- why one is not unregistered
  abbrev pub RefusesUnregister : ℕ → UnregisterRefusal → ChainState → CpuView J → ChainState → CpuView J → Type 0
  RefusesUnregister id unregister.NotThere s c s' c' = IsNotThere id s c s' c'
  RefusesUnregister id unregister.NoSlot s c s' c' = HasNoSlotWithout id s c s' c'

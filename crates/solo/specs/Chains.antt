-- The notifier chain of a domain in one hand.
use Rattle.std.specs.Prelude.{◌≡◌, ℕ, ◌^◌, ◌<◌, ◌≤◌, length}
use Rattle.sections.specs.Words.{cells_in}
use Rattle.notify.specs.declared.block.Block.{Block}
use Rattle.notify.specs.declared.refusals.RegisterRefusal.{RegisterRefusal}
use Rattle.notify.specs.declared.refusals.RegisterRefusal.TheVariants as register
use Rattle.notify.specs.declared.refusals.UnregisterRefusal.{UnregisterRefusal}
use Rattle.notify.specs.declared.refusals.UnregisterRefusal.TheVariants as unregister
use Rattle.notify.specs.Blocks.{HasNone, Inserts, Removes, IsTextOf}
use Rattle.notify.specs.Chains.{ChainState}
use Rattle.notify.specs.Changes.{Has}
use Rattle.solo.specs.Calls.{SoloView}
use Rattle.solo.specs.Courses.{Course}
use Rattle.solo.specs.Shelf.{in_cell}
use Rattle.solo.specs.Versions.{Puts, LacksSlot}

-- the chain is of this domain, and what is current in its cell are its blocks
pub record IsCurrent {J : Type 0} (d : SoloView J) (s : ChainState) : Type 0 where
  pub here : s.writer.domain ≡ d.table
  pub cell : (s.writer.cell < cells_in d.table) × (s.writer.cell < 4)
  pub small : s.ids ≤ 2 ^ 32
  pub text : IsTextOf s.ids (in_cell s.writer.cell d.shelf) s.blocks

-- the block is in the chain, in its place, and all blocks are the next version
pub record Registers (p : ℕ) (block : Block) (s s' : ChainState) (c c' : Course) : Type 0 where
  pub new_id : HasNone block.id s.blocks
  pub few : length s.blocks < 15
  pub inserts : Inserts block s.blocks s'.blocks
  pub puts : Puts p s.writer s'.writer c c'

-- the block is gone, and the others are the next version
pub record Unregisters (p id : ℕ) (s s' : ChainState) (c c' : Course) : Type 0 where
  pub removes : Removes id s.blocks s'.blocks
  pub puts : Puts p s.writer s'.writer c c'

-- nothing was done
abbrev pub DoesNothing : ChainState → ChainState → Course → Course → Type 0
DoesNothing s s' c c' = (s' ≡ s) × (c' ≡ c)

-- no slot was free, and the blocks are those that were there
pub record HasNoSlot (p : ℕ) (s s' : ChainState) (c c' : Course) : Type 0 where
  pub lacks : LacksSlot p s.writer s'.writer c c'
  pub blocks : s'.blocks ≡ s.blocks

-- why a block is not registered: the first that holds. Memory is never wanting
abbrev pub RefusesRegister : ℕ → ℕ → RegisterRefusal → ChainState → ChainState → Course → Course → Type 0
RefusesRegister p id register.There s s' c c' = Has id s.blocks × DoesNothing s s' c c'
RefusesRegister p id register.Full s s' c c' = HasNone id s.blocks × (length s.blocks ≡ 15) × DoesNothing s s' c c'
RefusesRegister p id register.NoSlot s s' c c' = HasNone id s.blocks × (length s.blocks < 15) × HasNoSlot p s s' c c'
RefusesRegister p id register.Memory s s' c c' = ⊥

-- why one is not unregistered
abbrev pub RefusesUnregister : ℕ → ℕ → UnregisterRefusal → ChainState → ChainState → Course → Course → Type 0
RefusesUnregister p id unregister.NotThere s s' c c' = HasNone id s.blocks × DoesNothing s s' c c'
RefusesUnregister p id unregister.NoSlot s s' c c' = Has id s.blocks × HasNoSlot p s s' c c'

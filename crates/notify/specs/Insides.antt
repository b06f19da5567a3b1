-- How the fields of a chain are seen, and what it keeps.
use Rattle.std.specs.Prelude.{ℕ, ◌^◌, ◌≤◌, List}
use Rattle.notify.specs.declared.block.Block.{Block}
use Rattle.notify.specs.declared.chain.Chain.TheInside.{Inside}
use Rattle.notify.specs.Blocks.{IsChain, HaveBits}
use Rattle.notify.specs.Chains.{ChainState}

abbrev pub view_of_chain : Inside → ChainState
view_of_chain c = record { writer = c.writer; ids = c.ids; blocks = c.blocks.items }

-- its blocks are those of a chain
pub record IsKept (ids : ℕ) (blocks : List Block) : Type 0 where
  pub small : ids ≤ 2 ^ 32
  pub chain : IsChain ids blocks
  pub fit : HaveBits blocks

abbrev pub is_sound : Inside → Type 0
is_sound c = IsKept c.ids c.blocks.items

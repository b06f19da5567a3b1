-- Whether a block is there.
use Rattle.std.proofs.Common.{rules, ◌≡◌, ℕ, List, Option, Some, None, false, subst}
use Rattle.std.specs.Option.{MatchOption, is_some}
use Rattle.notify.specs.declared.block.Block.{Block}
use Rattle.notify.specs.Blocks.{HasNone, StandsAt}

-- no block was found in a slice of the blocks
pub not_found : (found : Option ℕ) (id : ℕ) (slice blocks : List Block) → slice ≡ blocks → MatchOption found (HasNone id slice) (λ i. StandsAt i id slice) → false ≡ is_some found → HasNone id blocks
not_found None id slice blocks e h is = subst (HasNone id) e h
not_found (Some i) id slice blocks e h is = absurd (search rules)

-- Marks of ids: an id leaves the bit of its low six bits.
use Rattle.std.proofs.Common.{◌≡◌, ℕ, ◌%◌, ◌*◌, ◌^◌, List, All, bit_and, bit_or, ap, ◌∙◌, subst, arith}
use Rattle.std.specs.Int.{bit_at}
use Rattle.std.proofs.lemmas.Nat.{pow_pos}
use Rattle.std.proofs.lemmas.Nat.Bits.{and_pow, bit_at_or, bit_at-lt, bit_at-pow_same}
use Rattle.std.proofs.Math.Nat.{le-max_left, le-max_right}
use Rattle.notify.specs.declared.block.Block.{Block}
use Rattle.notify.specs.Blocks.{HasNone, IsMarked}

-- a mark stays where another is left
pub marked_still : (marks more id : ℕ) → IsMarked marks id → IsMarked (bit_or marks more) id
marked_still marks more id h =
    let both = bit_at_or marks more (id % 64) in let up = le-max_left (bit_at marks (id % 64)) (bit_at more (id % 64)) in
    let bit = bit_at-lt (bit_or marks more) (id % 64) in omega (arith, h, both, up, bit)

pub marked_now : (marks id : ℕ) → IsMarked (bit_or marks (2 ^ (id % 64))) id
marked_now marks id =
    let both = bit_at_or marks (2 ^ (id % 64)) (id % 64) in let up = le-max_right (bit_at marks (id % 64)) (bit_at (2 ^ (id % 64)) (id % 64)) in
    let own = bit_at-pow_same (id % 64) in let bit = bit_at-lt (bit_or marks (2 ^ (id % 64))) (id % 64) in omega (arith, both, up, own, bit)

unmarked : (marks id : ℕ) → bit_and marks (2 ^ (id % 64)) ≡ 0 → ¬ IsMarked marks id
unmarked marks id none h =
    let one = and_pow marks (id % 64) ∙ ap (λ b. b * 2 ^ (id % 64)) h in let some = pow_pos (id % 64) in omega (arith, none, one, some)

-- where each block left its mark, and the id did not, no block has it
pub new_where_unmarked : (marks id : ℕ) (blocks : List Block) → All (λ b. IsMarked marks b.id) blocks → bit_and marks (2 ^ (id % 64)) ≡ 0 → HasNone id blocks
new_where_unmarked marks id blocks all none k d lt is = unmarked marks id none (subst (IsMarked marks) is (all k d lt))

-- What a call of a chain gives.
use Rattle.std.specs.Prelude.{◌≡◌, ◌≢◌, ℕ, ◌+◌, ◌<◌, ◌≤◌, List, length, map, take, ◌-◌, slice_index_or, bit_and}
use Rattle.std.specs.List.{AllZip}
use Rattle.notify.specs.declared.block.Block.{Block}
use Rattle.notify.specs.Blocks.{AreRead}

-- the handler of this id may give this result
pub record GivesAt {H : Type 0} (gives : H → ℕ → Type 0) (handlers : List H) (id result : ℕ) : Type 0 where
  pub there : id < length handlers
  pub handler : H
  pub is : handler ≡ slice_index_or handlers id handler
  pub answered : gives handler result

-- no further handler is called behind this result
abbrev pub Stops : ℕ → Type 0
Stops result = bit_and result 32768 ≢ 0

-- so many handlers were to be called, and these are the results of those that were. Only the last may have stopped the call, and where it did not, all of them were called. What is answered is the last result, 0 where there is none, and how many there are
pub record IsChainAnswer (handlers : ℕ) (results : List ℕ) (last count : ℕ) : Type 0 where
  pub count_is : count ≡ length results
  pub last_is : last ≡ slice_index_or results (count - 1) 0
  pub goes_on : (i : ℕ) → i + 1 < count → ¬ Stops (slice_index_or results i 0)
  pub within : count ≤ handlers
  pub ends : count < handlers → Stops last

-- the handlers of the blocks gave such results, one behind the other
pub record Answers (gives : ℕ → ℕ → Type 0) (blocks : List Block) (last count : ℕ) : Type 0 where
  pub results : List ℕ
  pub given : AllZip gives (take count (map (λ b. b.id) blocks)) results
  pub answer : IsChainAnswer (length blocks) results last count

-- the words are read as blocks whose handlers gave the answer
pub record AnswersOf (gives : ℕ → ℕ → Type 0) (ids : ℕ) (words : List ℕ) (last count : ℕ) : Type 0 where
  pub blocks : List Block
  pub read : AreRead ids words blocks
  pub answers : Answers gives blocks last count

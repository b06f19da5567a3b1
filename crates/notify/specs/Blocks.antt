-- What a chain is, and the sixteen words of a version of it.
use Rattle.std.specs.Prelude.{◌≡◌, ◌≢◌, ℕ, ◌+◌, ◌-◌, ◌*◌, ◌/◌, ◌%◌, ◌^◌, ◌<◌, ◌≤◌, ◌⊎◌, ℤ, pos, negsuc, ◌≤ℤ◌, ◌<ℤ◌, ◌-ℤ◌, List, [], ◌∷◌, ◌++◌, All, length, map, take, drop, replicate, min, slice_index_or, FitsSigned}
use Rattle.std.specs.Int.{w32, bit_at}
use Rattle.std.specs.List.{AllPairs, HoldsAt}
use Rattle.notify.specs.declared.block.Block.{Block}

-- the one may stand before the other: its priority is higher, or the same
abbrev pub MayPrecede : ℤ → ℤ → Type 0
MayPrecede p q = q ≤ℤ p

-- the priority is lower than the other
abbrev pub IsLower : ℤ → ℤ → Type 0
IsLower p q = p <ℤ q

-- x stands before y in a chain
pub record Precedes (x y : Block) : Type 0 where
  pub may : MayPrecede x.priority y.priority
  pub other : x.id ≢ y.id

-- the blocks of a chain whose ids are below this number: the one stands before the other, for each two of them
pub record IsChain (ids : ℕ) (blocks : List Block) : Type 0 where
  pub few : length blocks ≤ 15
  pub known : All (λ b. b.id < ids) blocks
  pub ordered : AllPairs Precedes blocks

-- the block of this id is at this place
pub record StandsAt (place id : ℕ) (blocks : List Block) : Type 0 where
  pub there : place < length blocks
  pub id_is : HoldsAt (λ b. b.id ≡ id) blocks place

-- the block at this place may stand behind the one before it, if there is one
abbrev pub MayFollow : ℕ → List Block → Type 0
MayFollow place blocks = (d : Block) → 0 < place → MayPrecede (slice_index_or blocks (place - 1) d).priority (slice_index_or blocks place d).priority

-- the id left its mark: the bit of its low six bits
abbrev pub IsMarked : ℕ → ℕ → Type 0
IsMarked marks id = bit_at marks (id % 64) ≡ 1

-- no block has this id
abbrev pub HasNone : ℕ → List Block → Type 0
HasNone id blocks = All (λ b. b.id ≢ id) blocks

-- the block stands behind all that may precede it, those of its own priority among them, and before all of lower priority. The others stand as they did
pub record Inserts (block : Block) (old new : List Block) : Type 0 where
  pub before : List Block
  pub behind : List Block
  pub old_is : old ≡ before ++ behind
  pub new_is : new ≡ before ++ block ∷ behind
  pub higher : All (λ b. MayPrecede b.priority block.priority) before
  pub lower : All (λ b. IsLower b.priority block.priority) behind

-- the block of this id is gone, and the others stand as they did
pub record Removes (id : ℕ) (old new : List Block) : Type 0 where
  pub before : List Block
  pub gone : Block
  pub behind : List Block
  pub id_is : gone.id ≡ id
  pub old_is : old ≡ before ++ gone ∷ behind
  pub new_is : new ≡ before ++ behind

-- Words

-- the words, and zeros behind them
abbrev pub padded : ℕ → List ℕ → List ℕ
padded n words = words ++ replicate (n - length words) 0

-- a priority, raised so that it is no negative number
abbrev pub raised : ℤ → ℕ
raised (pos n) = n + 2 ^ 31
raised (negsuc n) = 2 ^ 31 - (n + 1)

abbrev pub lowered : ℕ → ℤ
lowered n = pos n -ℤ pos (2 ^ 31)

abbrev pub word_of : Block → ℕ
word_of b = raised b.priority * 2 ^ 32 + b.id

-- the block that has this word
abbrev pub block_at : ℕ → Block
block_at word = record { id = word % 2 ^ 32; priority = lowered (word / 2 ^ 32) }

-- how many blocks there are, their words in the order in which they are called, and zeros
abbrev pub text_of : List Block → List ℕ
text_of blocks = padded 16 (length blocks ∷ map word_of blocks)

abbrev pub ids_text : List Block → List ℕ
ids_text blocks = padded 15 (map (λ b. b.id) blocks)

-- the blocks that have the words behind the first, as many as the first one says
abbrev pub blocks_in : List ℕ → List Block
blocks_in words = map block_at (take (min (slice_index_or words 0 0) 15) (drop 1 words))

-- zeros stand behind this place
abbrev pub EndsAt : ℕ → List ℕ → Type 0
EndsAt n words = (i : ℕ) → n < i → i < 16 → slice_index_or words i 0 ≡ 0

-- each priority has 32 bits, with a sign
abbrev pub HaveBits : List Block → Type 0
HaveBits blocks = All (λ b. FitsSigned w32 b.priority) blocks

-- these are the words of this chain, whose priorities have 32 bits with a sign
pub record IsTextOf (ids : ℕ) (words : List ℕ) (blocks : List Block) : Type 0 where
  pub chain : IsChain ids blocks
  pub fit : HaveBits blocks
  pub words_are : words ≡ text_of blocks

-- they are the words of no chain, and there are no blocks
pub record IsNoText (ids : ℕ) (words : List ℕ) (blocks : List Block) : Type 0 where
  pub of_none : (bs : List Block) → ¬ IsTextOf ids words bs
  pub none_read : blocks ≡ []

-- what the words of a version are read as: the chain whose words they are, and no blocks where there is none
abbrev pub AreRead : ℕ → List ℕ → List Block → Type 0
AreRead ids words blocks = IsTextOf ids words blocks ⊎ IsNoText ids words blocks

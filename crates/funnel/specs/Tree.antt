-- The tree: its nodes, where its processors have their leaves, and how its words lie.
use Rattle.std.specs.Prelude.{◌≡◌, ℕ, zero, suc, ◌+◌, ◌-◌, ◌*◌, ◌/◌, ◌<◌, ◌≤◌}

-- node j is one of the four children of node k
abbrev pub IsChild : ℕ → ℕ → Type 0
IsChild j k = (4 * k < j) × (j ≤ 4 * k + 4)

abbrev pub parent : ℕ → ℕ
parent j = (j - 1) / 4

-- the node so many levels above
abbrev pub up : ℕ → ℕ → ℕ
up zero j = j
up (suc m) j = parent (up m j)

-- four processors have one leaf. In a tree of so many nodes, those from (nodes - 1) / 4 on are the leaves
abbrev pub leaf_of : ℕ → ℕ → ℕ
leaf_of nodes p = (nodes - 1) / 4 + p / 4

-- the node lies on the processor's way to the root: the processor is below it
abbrev pub IsOn : ℕ → ℕ → ℕ → Type 0
IsOn nodes p k = (m : ℕ) × (up m (leaf_of nodes p) ≡ k)

-- How high it is

-- how many processors a tree of this height has room for
abbrev pub room : ℕ → ℕ
room zero = 1
room (suc h) = 4 * room h

-- the nodes of a tree of this height
abbrev pub nodes_of : ℕ → ℕ
nodes_of zero = 0
nodes_of (suc h) = 4 * nodes_of h + 1

-- the height is the least from 1 on with room for so many processors
pub record IsLeast (processors nodes : ℕ) : Type 0 where
  pub height : ℕ
  pub some : 1 ≤ height
  pub nodes_are : nodes ≡ nodes_of height
  pub enough : processors ≤ room height
  pub least : (h : ℕ) → 1 ≤ h → processors ≤ room h → height ≤ h

abbrev pub LeavesAreThere : ℕ → ℕ → Type 0
LeavesAreThere processors nodes = (p : ℕ) → p < processors → leaf_of nodes p < nodes

-- Words

-- the word of a node
abbrev pub word_of : ℕ → ℕ
word_of node = 16 * node

abbrev pub node_at : ℕ → ℕ
node_at word = word / 16

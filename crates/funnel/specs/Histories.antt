-- Histories of a tree: what its nodes then hold, which histories are legal, and where each processor's call stands in them.
use Rattle.std.specs.Prelude.{◌≡◌, ℕ, nat_le, ◌==◌, ◌<◌, ◌≤◌, ◌⊎◌, max, List, [], ◌∷◌, ◌++◌, filter, if◌then◌else◌}
-- a beginning of a history
pub use Rattle.annals.specs.Logs.{IsBeginning}
use Rattle.sseq.specs.Numbers.{IsNumber}
use Rattle.funnel.specs.declared.view.Shape.{Shape}
use Rattle.funnel.specs.declared.view.Holder.{Holder}
use Rattle.funnel.specs.declared.view.Holder.TheVariants.{Processor, Engine}
use Rattle.funnel.specs.declared.view.Raise.{Raise}
use Rattle.funnel.specs.declared.view.Call.{Call}
use Rattle.funnel.specs.declared.view.Call.TheVariants.{Idle, From}
use Rattle.funnel.specs.Tree.{IsChild, leaf_of}

abbrev pub raise_of : ℕ → ℕ → ℕ → Raise
raise_of p k n = record { by = p; node = k; number = n }

abbrev pub given_to : ℕ → Raise → ℕ
given_to k r = if r.node == k then r.number else 0

-- what the node holds: the greatest number that was raised there, 0 if none
abbrev pub value : ℕ → List Raise → ℕ
value k [] = 0
value k (r ∷ rs) = max (given_to k r) (value k rs)

-- the greatest number that was asked for anywhere, 0 if none
abbrev pub greatest : List Raise → ℕ
greatest [] = 0
greatest (r ∷ rs) = max r.number (greatest rs)

-- Calls

-- a call ends at the root, and where it finds its number or more
abbrev pub call_after : ℕ → ℕ → ℕ → Call
call_after k n found = if nat_le n found then Idle else (if k == 0 then Idle else From k n)

-- where the processor's call stands after one more step of somebody
abbrev pub call_then : ℕ → List Raise → Call → Raise → Call
call_then p before call r = if r.by == p then call_after r.node r.number (value r.node before) else call

abbrev pub call_from : ℕ → List Raise → Call → List Raise → Call
call_from p before call [] = call
call_from p before call (r ∷ rs) = call_from p (before ++ r ∷ []) (call_then p before call r) rs

-- where it stands after a history: nowhere, or it has raised a node to a number and not yet made its step at the parent
abbrev pub call_of : ℕ → List Raise → Call
call_of p history = call_from p [] Idle history

-- a call begins at the leaf, and goes on at the parent with the same number
abbrev pub MayRaise : ℕ → Call → ℕ → ℕ → Type 0
MayRaise leaf call k n = ((call ≡ Idle) × (k ≡ leaf)) ⊎ ((j : ℕ) × (call ≡ From j n) × IsChild j k)

-- Legal histories

-- each step is the next one of a processor's call, and its number is that of a domain
pub record MayFollow (shape : Shape) (history : List Raise) (r : Raise) : Type 0 where
  pub by : r.by < shape.processors
  pub next : MayRaise (leaf_of shape.nodes r.by) (call_of r.by history) r.node r.number
  pub number : IsNumber r.number

abbrev pub IsLegalAfter : Shape → List Raise → List Raise → Type 0
IsLegalAfter shape before [] = Unit {0}
IsLegalAfter shape before (r ∷ rs) = MayFollow shape before r × IsLegalAfter shape (before ++ r ∷ []) rs

abbrev pub IsLegal : Shape → List Raise → Type 0
IsLegal shape history = IsLegalAfter shape [] history

-- some processor's call has raised the node to its value, and has not yet made its step at the parent
abbrev pub IsOnItsWay : List Raise → ℕ → Type 0
IsOnItsWay history j = (p : ℕ) × (call_of p history ≡ From j (value j history))

-- a node's parent holds as much, or a call is on its way there
abbrev pub Climbs : List Raise → Type 0
Climbs history = (j k : ℕ) → IsChild j k → (value j history ≤ value k history) ⊎ IsOnItsWay history j

-- Whose steps

abbrev pub raised_by : ℕ → List Raise → List Raise
raised_by p history = filter (λ r. r.by == p) history

-- the engine raises nothing
abbrev pub made_by : Holder → List Raise → List Raise
made_by (Processor p) history = raised_by p history
made_by Engine history = []

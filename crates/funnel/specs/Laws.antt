-- What holds of every tree, and of every history of one.
use Rattle.std.specs.Prelude.{◌≡◌, ℕ, ◌<◌, ◌≤◌, ◌⊎◌, List, ◌∷◌, ◌++◌, Option, slice_index}
use mathlib.Core.Option.{some}
use lib.ListN.{get_elem?}
use Rattle.atomic_table.specs.Table.{State, Splits, Joins}
use Rattle.funnel.specs.declared.view.Shape.{Shape}
use Rattle.funnel.specs.declared.view.Holder.{Holder}
use Rattle.funnel.specs.declared.view.Raise.{Raise}
use Rattle.funnel.specs.declared.view.Load.{Load}
use Rattle.funnel.specs.declared.view.Call.TheVariants.{Idle, From}
use Rattle.funnel.specs.Tree.{IsChild, word_of, leaf_of, IsOn}
use Rattle.funnel.specs.Histories.{IsBeginning, raise_of, value, greatest, call_of, IsLegal, Climbs}
use Rattle.funnel.specs.Rule.{View, AreLoads, loads_by, IsUpto, StandsFor, Kept}

-- the processor asked for this number: it raised its leaf to it
pub record HasAsked (shape : Shape) (history : List Raise) (p n : ℕ) : Type 0 where
  pub before : List Raise
  pub after : List Raise
  pub asked : history ≡ before ++ raise_of p (leaf_of shape.nodes p) n ∷ after

-- a processor below the node asked for this number
pub record IsAskedBelow (shape : Shape) (history : List Raise) (k n : ℕ) : Type 0 where
  pub processor : ℕ
  pub there : processor < shape.processors
  pub below : IsOn shape.nodes processor k
  pub asked : HasAsked shape history processor n

-- there is one legal history, each node holds what it says, each load of the root found what the root held, and every seat has seen a beginning of both.
-- A node holds 0 or a number that was asked through a processor below it; its parent holds as much, or a call has raised it to its value and has not yet made its step at the parent
pub record HasOneHistory (shape : Shape) (s : State (Option ℕ) View) : Type 0 where
  pub log : List Raise
  pub loads : List Load
  pub legal : IsLegal shape log
  pub nodes : (k : ℕ) → k < shape.nodes → slice_index s.words (word_of k) ≡ value k log
  pub loaded : AreLoads loads log
  pub seen : (j : ℕ) (v : View) → get_elem? s.views j ≡ some v → IsBeginning v.seen log × IsUpto v.done loads
  pub asked : (k : ℕ) → k < shape.nodes → (slice_index s.words (word_of k) ≡ 0) ⊎ IsAskedBelow shape log k (slice_index s.words (word_of k))
  pub climbs : (j k : ℕ) → IsChild j k → j < shape.nodes → (slice_index s.words (word_of j) ≤ slice_index s.words (word_of k)) ⊎ ((p : ℕ) × (call_of p log ≡ From j (slice_index s.words (word_of j))))

-- the rule, which holds between any two steps, says so
abbrev pub OneHistory : Type 0
OneHistory = (shape : Shape) (s : State (Option ℕ) View) → Kept shape s → HasOneHistory shape s

-- the second view has no load of this holder that the first one doesn't have
pub record HasNoLoadMore (h : Holder) (u w : View) : Type 0 where
  pub rest : List Load
  pub whole : loads_by h u.done ≡ loads_by h w.done ++ rest

-- however a seat v is cut in two or takes another in, what comes of it has no load of the root that was not made: no load of a holder h that h's own seat u doesn't have,
-- as long as there is another holder o that has a seat elsewhere. For o may have loaded the root meanwhile, more often than any cut or join can know of. So only a step on the table gives a load
abbrev pub NoStepIsForged : Type 0
NoStepIsForged = (shape : Shape) (s : State (Option ℕ) View) → Kept shape s → (id : ℕ) (v : View) → get_elem? s.views id ≡ some v → (k : ℕ) (u : View) → get_elem? s.views k ≡ some u → (h o : Holder) → StandsFor u.role h → ¬ (h ≡ o) → ¬ StandsFor v.role o
    → ((left right : View) → Splits (Kept shape) id v left right → HasNoLoadMore h u left × HasNoLoadMore h u right)
    × ((other : ℕ) (w both spent : View) → ¬ (other ≡ id) → get_elem? s.views other ≡ some w → ¬ StandsFor w.role o → Joins (Kept shape) id v other w both spent → HasNoLoadMore h u both × HasNoLoadMore h u spent)

-- in each legal history each node's parent holds as much, or a call is on its way there
abbrev pub NeedsClimb : Type 0
NeedsClimb = (shape : Shape) (history : List Raise) → IsLegal shape history → Climbs history

-- a node holds 0, or a number that was asked through a processor below it
abbrev pub HoldsWhatWasAsked : Type 0
HoldsWhatWasAsked = (shape : Shape) (history : List Raise) (k : ℕ) → IsLegal shape history → (value k history ≡ 0) ⊎ IsAskedBelow shape history k (value k history)

-- where no call is on its way, the root holds the greatest number that was asked
abbrev pub RootHasGreatest : Type 0
RootHasGreatest = (shape : Shape) (history : List Raise) → IsLegal shape history → ((p : ℕ) → p < shape.processors → call_of p history ≡ Idle) → value 0 history ≡ greatest history

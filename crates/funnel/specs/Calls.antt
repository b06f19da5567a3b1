-- What the calls of a seat do.
use Rattle.std.specs.Prelude.{◌≡◌, ℕ, ◌+◌, ◌<◌, ◌≤◌, ◌↔◌, IsTrue, List, [], ◌∷◌, ◌++◌, All, slice_index_or, length}
use Rattle.atomic_table.specs.Seated.{TableId}
use Rattle.funnel.specs.declared.view.Shape.{Shape}
use Rattle.funnel.specs.declared.view.Holder.{Holder}
use Rattle.funnel.specs.declared.view.Holder.TheVariants.{Processor, Engine}
use Rattle.funnel.specs.declared.view.Raise.{Raise}
use Rattle.funnel.specs.declared.view.Call.TheVariants.{Idle}
use Rattle.funnel.specs.declared.seat.Level.{Level}
use Rattle.funnel.specs.Tree.{up, leaf_of}
use Rattle.funnel.specs.Histories.{IsBeginning, raise_of, value, call_of, IsLegal, made_by}
use Rattle.funnel.specs.Seats.{climb_from}
use Rattle.funnel.specs.Views.{FunnelView}

-- no call of the holder is on its way
abbrev pub IsIdle : Holder → List Raise → Type 0
IsIdle (Processor p) history = call_of p history ≡ Idle
IsIdle Engine history = Unit {0}

-- a legal history of a tree of this shape, in which the holder has just these raises and no call on its way
pub record IsHistoryOf (shape : Shape) (holder : Holder) (mine seen : List Raise) : Type 0 where
  pub legal : IsLegal shape seen
  pub own : mine ≡ made_by holder seen
  pub idle : IsIdle holder seen

abbrev pub IsSeenBy : FunnelView → Type 0
IsSeenBy v = IsHistoryOf v.shape v.holder v.mine v.seen

-- the seat of one of the processors
abbrev pub IsOfProcessor : FunnelView → Type 0
IsOfProcessor v = (p : ℕ) × (v.holder ≡ Processor p)

-- the same holder's seat at the same tree
pub record IsSameSeat (v w : FunnelView) : Type 0 where
  pub domain : w.domain ≡ v.domain
  pub shape : w.shape ≡ v.shape
  pub holder : w.holder ≡ v.holder

-- one step at each of so many nodes, from the leaf upward, of which only the last may be the root. The last one holds the number then, `found` is whether it held as much before, and where it did not, it is the root
pub record Asks (n : ℕ) (v : FunnelView) (level : Level) (w : FunnelView) : Type 0 where
  pub same : IsSameSeat v w
  pub processor : ℕ
  pub asker : v.holder ≡ Processor processor
  pub above : ℕ
  pub nodes : level.nodes ≡ above + 1
  pub below : (m : ℕ) → m < above → ¬ (up m (leaf_of v.shape.nodes processor) ≡ 0)
  pub mine : w.mine ≡ v.mine ++ climb_from processor n (leaf_of v.shape.nodes processor) level.nodes
  pub before : List Raise
  pub since : IsBeginning v.seen before
  pub seen : w.seen ≡ before ++ raise_of processor (up above (leaf_of v.shape.nodes processor)) n ∷ []
  pub holds : n ≤ value (up above (leaf_of v.shape.nodes processor)) w.seen
  pub found : IsTrue level.found ↔ (n ≤ value (up above (leaf_of v.shape.nodes processor)) before)
  pub at_root : ¬ IsTrue level.found → up above (leaf_of v.shape.nodes processor) ≡ 0
  pub loads : w.loads ≡ v.loads
  pub history : IsSeenBy w

-- unless a node held the number before, the root holds it now
abbrev pub IsAskedFor : ℕ → Level → FunnelView → Type 0
IsAskedFor n level w = ¬ IsTrue level.found → n ≤ value 0 w.seen

-- one load found the root as it is in what is then seen, and nothing was raised
pub record LoadsRoot (v : FunnelView) (found : ℕ) (w : FunnelView) : Type 0 where
  pub same : IsSameSeat v w
  pub mine : w.mine ≡ v.mine
  pub loads : w.loads ≡ v.loads ++ found ∷ []
  pub since : IsBeginning v.seen w.seen
  pub current : found ≡ value 0 w.seen
  pub not_below : value 0 v.seen ≤ found
  pub history : IsSeenBy w

-- one load, after which this is seen too
pub record Covers (v : FunnelView) (other : List Raise) (w : FunnelView) : Type 0 where
  pub found : ℕ
  pub load : LoadsRoot v found w
  pub covers : IsBeginning other w.seen

-- one load, after which just this is seen
pub record Accepts (v : FunnelView) (all : List Raise) (w : FunnelView) : Type 0 where
  pub found : ℕ
  pub same : IsSameSeat v w
  pub mine : w.mine ≡ v.mine
  pub loads : w.loads ≡ v.loads ++ found ∷ []
  pub seen : w.seen ≡ all
  pub not_below : value 0 all ≤ found
  pub history : IsSeenBy w

-- a load by each. Both have then seen one history, which covers what each had seen, and in which each has just its own raises
pub record Ties (v o v' o' : FunnelView) : Type 0 where
  pub first : Covers v o.seen v'
  pub second : Accepts o v'.seen o'

abbrev pub AreOfProcessors : List FunnelView → Type 0
AreOfProcessors seats = All IsOfProcessor seats

-- Making

abbrev pub new_seat : TableId → Shape → Holder → FunnelView
new_seat domain shape holder = record { domain = domain; shape = shape; holder = holder; seen = []; mine = []; loads = [] }

-- the processors' seats in order, which know of nothing yet
abbrev pub AreNew : TableId → Shape → List FunnelView → Type 0
AreNew domain shape seats = (p : ℕ) (v : FunnelView) → p < length seats → slice_index_or seats p v ≡ new_seat domain shape (Processor p)

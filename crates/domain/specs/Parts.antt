-- What the parts of a meeting do: the first processor has the engine, and there are others.
use Rattle.std.specs.Prelude.{◌≡◌, ◌≢◌, false, ℕ, ◌<◌, ◌≤◌, ◌++◌, List, All, length, map, slice_index_or}
use Rattle.onedom.specs.Histories as events
use Rattle.sections.specs.declared.view.Step.TheVariants.{LoadIndex}
use Rattle.sections.specs.declared.view.Shown.TheVariants.{To}
use Rattle.sections.specs.Words.{index_word}
use Rattle.sections.specs.Views as sections
use Rattle.sections.specs.Calls as calls
use Rattle.sections.specs.Shelves.{IsStart}
use Rattle.sections.specs.EngineCalls.{IsSeenByEngine, IsSameEngine, Joins}
use Rattle.funnel.specs.Views.{FunnelView}
use Rattle.funnel.specs.Histories as tree
use Rattle.funnel.specs.Histories.{value}
use Rattle.funnel.specs.Calls.{IsSeenBy, IsSameSeat}
use Rattle.desk.specs.Swaps as swaps
use Rattle.desk.specs.Swaps.{swaps_of}
use Rattle.desk.specs.BayViews.{BaySeatView}
use Rattle.desk.specs.BayCalls.{holds, Accepts}
use Rattle.calls.specs.Tallies as deeds
use Rattle.calls.specs.Tallies.{deeds_of}
use Rattle.calls.specs.Views.{CallSeatView}
use Rattle.calls.specs.Meetings as tallies
use Rattle.domain.specs.Views.{Engine, CpuView, with_calls}
use Rattle.domain.specs.Meetings.{JoinsTree}

module _ {J : Type 0} where
  -- each of them
  abbrev pub Each : (CpuView J → Type 0) → List (CpuView J) → Type 0
  Each P cpus = (k : ℕ) (c : CpuView J) → k < length cpus → P (slice_index_or cpus k c)

  -- the three seats of another processor are at the same tables
  pub record IsBeside (e : sections.EngineView) (n : FunnelView) (t : BaySeatView Engine) (c : CpuView J) : Type 0 where
    pub domain : c.cpu.domain ≡ e.domain
    pub tree : c.needs.domain ≡ n.domain
    pub bay : c.turn.bay ≡ t.bay

  -- Covering

  -- the engine has seen what these have, and did nothing but to load the index word once for each
  pub record EngineCovers (e : sections.EngineView) (cpus : List (CpuView J)) (e' : sections.EngineView) : Type 0 where
    pub found : List ℕ
    pub one_each : length found ≡ length cpus
    pub steps : e'.steps ≡ e.steps ++ map LoadIndex found
    pub current : All (λ n. n ≡ index_word e.changes) found
    pub same : IsSameEngine e e'
    pub mine : e'.mine ≡ e.mine
    pub changes : e'.changes ≡ e.changes
    pub shown : e'.shown ≡ e.shown
    pub since : events.IsBeginning e.seen e'.seen
    pub texts : IsStart e.texts e'.texts
    pub history : IsSeenByEngine e'
    pub covers : Each (λ c. events.IsBeginning c.cpu.seen e'.seen × (c.cpu.changes ≤ e'.changes)) cpus

  -- the seat at the tree has seen what these have, and did nothing but to load the root once for each
  pub record NeedsCover (n : FunnelView) (cpus : List (CpuView J)) (n' : FunnelView) : Type 0 where
    pub same : IsSameSeat n n'
    pub mine : n'.mine ≡ n.mine
    pub found : List ℕ
    pub one_each : length found ≡ length cpus
    pub loads : n'.loads ≡ n.loads ++ found
    pub within : All (λ m. (value 0 n.seen ≤ m) × (m ≤ value 0 n'.seen)) found
    pub up : value 0 n.seen ≤ value 0 n'.seen
    pub since : tree.IsBeginning n.seen n'.seen
    pub history : IsSeenBy n'
    pub covers : Each (λ c. tree.IsBeginning c.needs.seen n'.seen) cpus

  -- the seat at the bay has seen what these have, and made no swap
  pub record TurnCovers (t : BaySeatView Engine) (cpus : List (CpuView J)) (t' : BaySeatView Engine) : Type 0 where
    pub same : t' ≡ record t { seen = t'.seen }
    pub since : swaps.IsBeginning t.seen t'.seen
    pub own : swaps_of t.number t'.seen ≡ swaps_of t.number t.seen
    pub holding : holds t' ≡ holds t
    pub covers : Each (λ c. swaps.IsBeginning c.turn.seen t'.seen) cpus

  -- the seat at the tally words has seen what these have, and did nothing
  pub record CallsCover (s : CallSeatView J) (cpus : List (CpuView J)) (t : CallSeatView J) : Type 0 where
    pub same : t ≡ record s { seen = t.seen }
    pub since : deeds.IsBeginning s.seen t.seen
    pub own : deeds_of s.processor t.seen ≡ deeds_of s.processor s.seen
    pub covers : Each (λ c. deeds.IsBeginning c.calls.seen t.seen) cpus

  -- the seat and those of these processors are all seats of the place where the engine lies, and none of them has it
  pub record AreAllTurns (t : BaySeatView Engine) (others : List (CpuView J)) : Type 0 where
    pub free : holds t ≡ false
    pub others_free : Each (λ c. holds c.turn ≡ false) others
    pub each : (n : ℕ) → n < t.seats → n ≢ t.number → (k : ℕ) × (k < length others) × ((c : CpuView J) → (slice_index_or others k c).turn.number ≡ n)

  -- Admitting

  -- each of them, and what has become of it
  pub record EachBecomes (P : CpuView J → CpuView J → Type 0) (cpus cpus' : List (CpuView J)) : Type 0 where
    pub count : length cpus' ≡ length cpus
    pub each : (k : ℕ) (c : CpuView J) → k < length cpus → P (slice_index_or cpus k c) (slice_index_or cpus' k c)

  -- the processor has then seen just what the engine has, and at the tree just what this seat has
  pub record IsAdmitted (e : sections.EngineView) (n : FunnelView) (c c' : CpuView J) : Type 0 where
    pub cpu : Joins c.cpu e.seen e.changes e.texts c'.cpu
    pub was : calls.IsSeenBy c.cpu
    pub sized : c.cpu.processors ≡ e.processors
    pub heard : (changes : ℕ) → e.shown ≡ To c.cpu.processor changes → changes ≤ c.cpu.changes
    pub needs : JoinsTree c.needs n.seen c'.needs
    pub one_load : length needs.found ≡ 1
    pub root : All (λ m. value 0 n.seen ≤ m) needs.found
    pub turn : c'.turn ≡ c.turn
    pub calls : c'.calls ≡ c.calls

  -- it has seen just the swaps that this seat has
  pub record IsTurned (t : BaySeatView Engine) (c c' : CpuView J) : Type 0 where
    pub cpu : c'.cpu ≡ c.cpu
    pub needs : c'.needs ≡ c.needs
    pub turn : Accepts c.turn t.seen c'.turn
    pub calls : c'.calls ≡ c.calls

  -- its seat at the tally words has seen just what this one has
  pub record IsHeard (s : CallSeatView J) (c c' : CpuView J) : Type 0 where
    pub calls : tallies.Accepts c.calls s.seen c'.calls
    pub rest : c' ≡ with_calls c'.calls c

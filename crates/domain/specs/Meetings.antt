-- What a meeting of all processors of a domain is.
use Rattle.std.specs.Prelude.{◌≡◌, ℕ, ◌<◌, ◌≤◌, ◌++◌, List, All, length, map, slice_index_or}
use Rattle.atomic_table.specs.Seated.{TableId}
use Rattle.onedom.specs.Histories as events
use Rattle.sections.specs.declared.view.Step.TheVariants.{LoadIndex}
use Rattle.sections.specs.Shelves.{IsStart}
use Rattle.sections.specs.Words.{index_word}
use Rattle.sections.specs.Views as sections
use Rattle.sections.specs.EngineCalls.{IsSeenByEngine, IsSameEngine, HasSeenAll, Joins}
use Rattle.scan.specs.Progress.{with_seat}
use Rattle.funnel.specs.declared.view.Shape.{Shape}
use Rattle.funnel.specs.declared.view.Holder.TheVariants.{Processor}
use Rattle.funnel.specs.declared.view.Raise.{Raise}
use Rattle.funnel.specs.Views.{FunnelView}
use Rattle.funnel.specs.Histories as tree
use Rattle.funnel.specs.Histories.{value, greatest}
use Rattle.funnel.specs.Calls.{IsSeenBy, IsSameSeat}
use Rattle.desk.specs.Swaps.{Swap}
use Rattle.desk.specs.BayCalls.{Accepts}
use Rattle.calls.specs.declared.view.Deed.{Deed}
use Rattle.calls.specs.Tallies.{AreTakers}
use Rattle.calls.specs.Meetings as tallies
use Rattle.domain.specs.Views.{Engine, DomainView, CpuView, IsOf}
use Rattle.scan.specs.Stations.{TakesTurn}

module _ {J : Type 0} where
  -- all processors of this domain, in order, each with its seat at one tree
  pub record IsAllOf (d : DomainView) (cpus : List (CpuView J)) : Type 0 where
    pub some : 0 < length cpus
    pub here : (k : ℕ) (c : CpuView J) → k < length cpus → IsOf d (slice_index_or cpus k c)
    pub count : (k : ℕ) (c : CpuView J) → k < length cpus → (slice_index_or cpus k c).cpu.processors ≡ length cpus
    pub order : (k : ℕ) (c : CpuView J) → k < length cpus → (slice_index_or cpus k c).cpu.processor ≡ k
    pub tree : TableId
    pub shape : Shape
    pub asks : (k : ℕ) (c : CpuView J) → k < length cpus → ((slice_index_or cpus k c).needs.domain ≡ tree) × ((slice_index_or cpus k c).needs.shape ≡ shape) × ((slice_index_or cpus k c).needs.holder ≡ Processor k)
    pub leaves : shape.processors ≡ length cpus

  -- The engine and the processors

  -- they have seen one history, in which each has just its own events. The engine loaded the index word once for each processor, as it had left it, and each processor once. One of the processors had seen all that the engine made
  pub record EngineMeets (e : sections.EngineView) (cpus : List (CpuView J)) (e' : sections.EngineView) (cpus' : List (CpuView J)) : Type 0 where
    pub found : List ℕ
    pub one_each : length found ≡ length cpus
    pub steps : e'.steps ≡ e.steps ++ map LoadIndex found
    pub current : All (λ n. n ≡ index_word e.changes) found
    pub same : IsSameEngine e e'
    pub mine : e'.mine ≡ e.mine
    pub changes : e'.changes ≡ e.changes
    pub shown : e'.shown ≡ e.shown
    pub since : events.IsBeginning e.seen e'.seen
    pub texts : IsStart e.texts e'.texts
    pub history : IsSeenByEngine e'
    pub each : (k : ℕ) (c : CpuView J) → k < length cpus → Joins (slice_index_or cpus k c).cpu e'.seen e'.changes e'.texts (slice_index_or cpus' k c).cpu
    pub one : ℕ
    pub there : one < length cpus
    pub knew : (c : CpuView J) → HasSeenAll e (slice_index_or cpus one c).cpu

-- The tree

-- the seat has then seen just these raises, which go on from those that it had seen; it raised nothing, and loaded the root
pub record JoinsTree (v : FunnelView) (raises : List Raise) (w : FunnelView) : Type 0 where
  pub same : IsSameSeat v w
  pub mine : w.mine ≡ v.mine
  pub found : List ℕ
  pub loads : w.loads ≡ v.loads ++ found
  pub since : tree.IsBeginning v.seen raises
  pub seen : w.seen ≡ raises
  pub history : IsSeenBy w

module _ {J : Type 0} where
  -- All have seen one list of raises, in which each has just its own. The first loaded the root as often as there are processors, and each other once. No load found less than was known, and none by the first more than the root holds then: the greatest number that was raised, 0 if none was
  pub record TreeMeets (cpus cpus' : List (CpuView J)) : Type 0 where
    pub raises : List Raise
    pub each : (k : ℕ) (c : CpuView J) → k < length cpus → JoinsTree (slice_index_or cpus k c).needs raises (slice_index_or cpus' k c).needs
    pub first_loads : (c : CpuView J) (some : 0 < length cpus) → length (each 0 c some).found ≡ length cpus
    pub others_load : (k : ℕ) (c : CpuView J) (there : k < length cpus) → 0 < k → length (each k c there).found ≡ 1
    pub first_found : (c : CpuView J) (some : 0 < length cpus) → All (λ m. (value 0 (slice_index_or cpus 0 c).needs.seen ≤ m) × (m ≤ value 0 raises)) (each 0 c some).found
    pub others_found : (k : ℕ) (c : CpuView J) (there : k < length cpus) → 0 < k → All (λ m. value 0 raises ≤ m) (each k c there).found
    pub root : value 0 raises ≡ greatest raises

  -- The turns

  -- all have seen one list of swaps, in which each has just its own. The first processor had the engine in between
  pub record TurnsMeet (cpus : List (CpuView J)) (found left : Engine) (cpus' : List (CpuView J)) : Type 0 where
    pub swaps : List (Swap Engine)
    pub seen : (k : ℕ) (c : CpuView J) → k < length cpus → (slice_index_or cpus' k c).turn.seen ≡ swaps
    pub first : (c : CpuView J) → TakesTurn (slice_index_or cpus 0 c).turn found left (slice_index_or cpus' 0 c).turn
    pub others : (k : ℕ) (c : CpuView J) → 0 < k → k < length cpus → Accepts (slice_index_or cpus k c).turn swaps (slice_index_or cpus' k c).turn

  -- The tally words

  -- all have seen one list of what was done there, in which each has just its own deeds; none of them did anything. All batches in it were finished by these processors
  pub record TalliesMeet (cpus cpus' : List (CpuView J)) : Type 0 where
    pub deeds : List (Deed J)
    pub each : (k : ℕ) (c : CpuView J) → k < length cpus → tallies.Accepts (slice_index_or cpus k c).calls deeds (slice_index_or cpus' k c).calls
    pub takers : AreTakers (length cpus) deeds

  -- All of it

  -- the engine, which was found and left, and all processors have seen one history, one list of raises, one of swaps, and one of deeds at the tally words
  pub record MeetsHere (cpus cpus' : List (CpuView J)) : Type 0 where
    pub found : Engine
    pub left : Engine
    pub count : length cpus' ≡ length cpus
    pub engine : EngineMeets found.seat cpus left.seat cpus'
    pub rest : left ≡ with_seat left.seat found
    pub needs : TreeMeets cpus cpus'
    pub turns : TurnsMeet cpus found left cpus'
    pub calls : TalliesMeet cpus cpus'

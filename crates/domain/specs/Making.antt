-- What a new domain is.
use Rattle.std.specs.Prelude.{◌≡◌, ℕ, ◌<◌, List, [], ◌∷◌, length, slice_index_or}
use Rattle.atomic_table.specs.Seated.{TableId}
use Rattle.sections.specs.declared.view.Bounds.{Bounds}
use Rattle.sections.specs.Views as sections_views
use Rattle.sections.specs.Calls as sections
use Rattle.sections.specs.EngineCalls as sections_engine
use Rattle.scan.specs.Progress.{new_engine}
use Rattle.funnel.specs.declared.view.Shape.{Shape}
use Rattle.funnel.specs.declared.view.Holder.TheVariants.{Processor}
use Rattle.funnel.specs.Tree.{IsLeast}
use Rattle.funnel.specs.Views.{FunnelView}
use Rattle.funnel.specs.Calls as funnel
use Rattle.desk.specs.BayViews.{BayView, BaySeatView}
use Rattle.desk.specs.BayCalls.{new_bay_seat}
use Rattle.calls.specs.Views.{CallSeatView}
use Rattle.calls.specs.Calls.{new_seat}
use Rattle.domain.specs.Views as views
use Rattle.domain.specs.Views.{DomainView, CpuView}

-- an engine that has done nothing
abbrev pub idle_engine : TableId → Bounds → views.Engine
idle_engine domain bounds = new_engine (sections_engine.new_engine domain bounds.processors bounds.periods)

-- where a new domain's engine lies, which is tied as it has done nothing
abbrev pub new_bay : DomainView → Bounds → BayView views.Engine
new_bay d bounds = record { bay = d.bay; domain = d.domain; seats = bounds.processors; first = idle_engine d.domain bounds }

module _ {J : Type 0} where
  -- processor k, whose seats know of nothing yet: no call is queued
  abbrev pub new_cpu : DomainView → Bounds → Shape → ℕ → CpuView J
  new_cpu d bounds shape k = record { cpu = sections.new_cpu d.domain bounds.processors bounds.sections k; needs = funnel.new_seat d.tree shape (Processor k); turn = new_bay_seat (new_bay d bounds) k; calls = new_seat d.domain d.tallies bounds.processors k }

  -- the processors in order, none of which has made a step
  pub record IsMade (bounds : Bounds) (d : DomainView) (cpus : List (CpuView J)) : Type 0 where
    pub count : length cpus ≡ bounds.processors
    pub many : d.processors ≡ bounds.processors
    pub limit : d.periods ≡ bounds.periods
    pub nodes : ℕ
    pub least : IsLeast bounds.processors nodes
    pub each : (k : ℕ) (c : CpuView J) → k < length cpus → slice_index_or cpus k c ≡ new_cpu d bounds (record { processors = bounds.processors; nodes = nodes }) k

  -- the first seats of each kind are those of the first processor, and so on
  abbrev pub joined : List sections_views.CpuView → List FunnelView → List (BaySeatView views.Engine) → List (CallSeatView J) → List (CpuView J)
  joined [] needs turns calls = []
  joined (c ∷ cs) [] turns calls = []
  joined (c ∷ cs) (n ∷ ns) [] calls = []
  joined (c ∷ cs) (n ∷ ns) (t ∷ ts) [] = []
  joined (c ∷ cs) (n ∷ ns) (t ∷ ts) (s ∷ ss) = record { cpu = c; needs = n; turn = t; calls = s } ∷ joined cs ns ts ss

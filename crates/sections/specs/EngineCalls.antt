-- What the calls of the engine's seat do.
use Rattle.std.specs.Prelude.{◌≡◌, ℕ, ◌+◌, ◌^◌, ◌<◌, ◌≤◌, ◌⊎◌, List, [], ◌∷◌, ◌++◌, length}
use Rattle.atomic_table.specs.Seated.{TableId}
use Rattle.sseq.specs.declared.index.Index.{Index}
use Rattle.onedom.specs.declared.event.Maker.TheVariants.{Processor, Engine}
use Rattle.onedom.specs.declared.event.Event.{Event}
use Rattle.onedom.specs.Histories.{IsOpen, WasOpenAtStart, IsBeginning, made_by}
use Rattle.sections.specs.declared.view.Shown.TheVariants.{To}
use Rattle.sections.specs.declared.view.Step.{Step}
use Rattle.sections.specs.declared.view.Step.TheVariants.{LoadIndex, LoadUnlocks, LoadLocks, AddIndex, AddNumber}
use Rattle.sections.specs.declared.view.Text.{Text}
use Rattle.sections.specs.Shelves.{IsStart}
use Rattle.sections.specs.Words.{index_word, number_word, locks, unlocks, all_locks}
use Rattle.sections.specs.Views.{CpuView, EngineView}
use Rattle.sections.specs.Calls.{IsHistoryOf, HasSeenOf, Accepts}

abbrev pub IsSeenByEngine : EngineView → Type 0
IsSeenByEngine e = IsHistoryOf e.processors Engine e.mine e.seen e.changes e.texts

abbrev pub IsSameEngine : EngineView → EngineView → Type 0
IsSameEngine e f = (f.domain ≡ e.domain) × (f.processors ≡ e.processors) × (f.periods ≡ e.periods)

abbrev pub new_engine : TableId → ℕ → ℕ → EngineView
new_engine domain processors periods = record { domain = domain; processors = processors; periods = periods; seen = []; changes = 0; texts = []; shown = To 0 0; mine = []; steps = [] }

-- Steps

-- one step was made that is no event, after which the engine has made so many changes; what is then seen goes on from what was seen before
pub record TakesStep (l : Step) (changes : ℕ) (e f : EngineView) : Type 0 where
  pub same : IsSameEngine e f
  pub mine : f.mine ≡ e.mine
  pub steps : f.steps ≡ e.steps ++ l ∷ []
  pub changes_are : f.changes ≡ changes
  pub shown : f.shown ≡ e.shown
  pub since : IsBeginning e.seen f.seen
  pub texts : IsStart e.texts f.texts
  pub history : IsSeenByEngine f

-- one load of an unlock counter found as many as have ended there, with this index, in what is then seen
pub record CountsUnlocks (q : ℕ) (i : Index) (found : ℕ) (e f : EngineView) : Type 0 where
  pub step : TakesStep (LoadUnlocks q i found (length f.seen)) e.changes e f
  pub exact : found ≡ unlocks q i f.seen
  pub bound : all_locks f.processors i f.seen ≤ 2 ^ 60

-- one load of a lock counter found as many as were begun there, with this index, in what is then seen
pub record CountsLocks (p : ℕ) (i : Index) (found : ℕ) (e f : EngineView) : Type 0 where
  pub step : TakesStep (LoadLocks p i found (length f.seen)) e.changes e f
  pub exact : found ≡ locks p i f.seen
  pub bound : all_locks f.processors i f.seen ≤ 2 ^ 60

-- 1 was added to the index word
abbrev pub Flips : EngineView → EngineView → Type 0
Flips e f = TakesStep (AddIndex (index_word f.changes)) (e.changes + 1) e f

-- behind the flip 1 was added to the number
abbrev pub MovesOn : EngineView → EngineView → Type 0
MovesOn e f = TakesStep (AddNumber (number_word f.changes)) (e.changes + 1) e f

-- the engine's event was made, behind all that it had seen, by a change of the number
pub record AddsEngineEvent (ev : Event) (e f : EngineView) : Type 0 where
  pub same : IsSameEngine e f
  pub before : List Event
  pub seen : f.seen ≡ before ++ ev ∷ []
  pub since : IsBeginning e.seen before
  pub texts : IsStart e.texts f.texts
  pub changes_are : f.changes ≡ e.changes + 1
  pub shown : f.shown ≡ e.shown
  pub mine : f.mine ≡ e.mine ++ ev ∷ []
  pub steps : f.steps ≡ e.steps
  pub history : IsSeenByEngine f

-- no section that was open at the start of the period is open now
abbrev pub OpenAtStartAreClosed : List Event → List Event → Type 0
OpenAtStartAreClosed seen now = (s : ℕ) → WasOpenAtStart seen s → ¬ IsOpen now s

-- Ties

-- one load of the index word by the engine, after which it has seen what the processor has
pub record Covers (e : EngineView) (seen : List Event) (reached : ℕ) (e' : EngineView) : Type 0 where
  pub value : ℕ
  pub current : value ≡ index_word e'.changes
  pub step : TakesStep (LoadIndex value) e.changes e e'
  pub covers : IsBeginning seen e'.seen
  pub not_before : reached ≤ e'.changes

-- the processor is known to have seen so many changes
abbrev pub noted : ℕ → ℕ → EngineView → EngineView
noted p changes e = record { domain = e.domain; processors = e.processors; periods = e.periods; seen = e.seen; changes = e.changes; texts = e.texts; shown = To p changes; mine = e.mine; steps = e.steps }

-- the engine has made no change that no processor has seen
pub record IsTied (e : EngineView) : Type 0 where
  pub processor : ℕ
  pub there : processor < e.processors
  pub shown : e.shown ≡ To processor e.changes

-- the processor has seen all events and all changes that the engine made
pub record HasSeenAll (e : EngineView) (c : CpuView) : Type 0 where
  pub events : made_by Engine c.seen ≡ e.mine
  pub changes : c.changes ≡ e.changes

-- the engine and the processor made one load each, and no event, and have then seen one history, which covers what each had seen. From then until the engine's next change the rule keeps that the processor has seen all that the engine made
pub record TiesEngine (e : EngineView) (c : CpuView) (e' : EngineView) (c' : CpuView) : Type 0 where
  pub between : EngineView
  pub covers : Covers e c.seen c.changes between
  pub notes : e' ≡ noted c.processor between.changes between
  pub accepts : Accepts c e'.seen e'.changes e'.texts c'
  pub since : IsBeginning c.seen c'.seen
  pub later : c.changes ≤ c'.changes
  pub comparable : IsBeginning e.seen c.seen ⊎ IsBeginning c.seen e.seen
  pub engine_known : HasSeenOf Engine e.mine c.seen
  pub cpu_known : HasSeenOf (Processor c.processor) c.mine e.seen

-- the processor made a load and no event, and has seen this history, which goes on from what it had seen
pub record Joins (c : CpuView) (seen : List Event) (changes : ℕ) (known : List Text) (c' : CpuView) : Type 0 where
  pub accepts : Accepts c seen changes known c'
  pub since : IsBeginning c.seen seen
  pub later : c.changes ≤ changes

-- What is known at each place of a grace period.
use Rattle.std.specs.Prelude.{◌≡◌, ◌≢◌, ℕ, ◌+◌, ◌*◌, ◌<◌, ◌≤◌, ◌⊎◌, ◌==◌, List, [], ◌∷◌, ◌++◌, length, if◌then◌else◌}
use Rattle.sseq.specs.declared.index.Index.{Index}
use Rattle.onedom.specs.declared.event.Event.{Event}
use Rattle.onedom.specs.Histories.{starts_in, WasEmpty, IsBeginning}
use Rattle.sections.specs.declared.view.Step.{Step}
use Rattle.sections.specs.declared.view.Step.TheVariants.{LoadIndex, LoadUnlocks, LoadLocks, AddIndex, AddNumber, LoadWord}
use Rattle.sections.specs.Words.{number_word, locks, unlocks, sum_below, all_unlocks, IsIdle, IsBeforeFlip, IsFlipping, IsBehindFlip}
use Rattle.sections.specs.Views.{EngineView}
use Rattle.sections.specs.EngineCalls.{IsSeenByEngine, IsSameEngine}
use Rattle.scan.specs.Standings.{Standing, current, not_current, events_of, FirstLoaded, Counts, IsAnswered}
use Rattle.scan.specs.Progress.{ScanView, AtWork, at_work, IsStepAt, counter_loads, Shows}
use Rattle.scan.specs.declared.place.Place.{Place}
use Rattle.scan.specs.declared.place.Place.TheVariants.{Idle, Wanted, Unlocks, Locks, Passed, Flipped}
use Rattle.scan.specs.declared.progress.Progress.{Progress}

-- how many steps were made of what is half done, in a domain of so many processors
abbrev pub so_far : ℕ → Place → ℕ
so_far processors Idle = 0
so_far processors (Wanted n) = 1
so_far processors (Unlocks p ended) = p
so_far processors (Locks p ended begun) = processors + p
so_far processors Passed = 2 * processors
so_far processors (Flipped i) = 2 * processors + 1

-- how long the history was that was seen at the load of a counter that is so many from the end; 1 is the last one
abbrev pub seen_at_load : ℕ → List Step → ℕ
seen_at_load loads [] = 0
seen_at_load loads (LoadUnlocks p i found seen ∷ rest) = if counter_loads rest + 1 == loads then seen else seen_at_load loads rest
seen_at_load loads (LoadLocks p i found seen ∷ rest) = if counter_loads rest + 1 == loads then seen else seen_at_load loads rest
seen_at_load loads (LoadIndex n ∷ rest) = seen_at_load loads rest
seen_at_load loads (AddIndex n ∷ rest) = seen_at_load loads rest
seen_at_load loads (AddNumber n ∷ rest) = seen_at_load loads rest
seen_at_load loads (LoadWord c v x n ∷ rest) = seen_at_load loads rest

-- how long it was at the first load of the scan
abbrev pub began : EngineView → Place → ℕ
began e Idle = 0
began e (Wanted n) = 0
began e (Unlocks p ended) = seen_at_load p e.steps
began e (Locks p ended begun) = seen_at_load (e.processors + p) e.steps
began e Passed = seen_at_load (2 * e.processors) e.steps
began e (Flipped i) = seen_at_load (2 * e.processors) e.steps

-- the number that was found to be asked for
abbrev pub wanted : Place → ℕ
wanted Idle = 0
wanted (Wanted n) = n
wanted (Unlocks p ended) = 0
wanted (Locks p ended begun) = 0
wanted Passed = 0
wanted (Flipped i) = 0

-- a grace period runs, not between the two steps of the flip; and behind the flip the first scan had passed: it was of the index that now is current
pub record IsScanning (e : EngineView) : Type 0 where
  pub running : IsBeforeFlip e.changes ⊎ IsBehindFlip e.changes
  pub first_scan : IsBehindFlip e.changes → WasEmpty (current e.changes) e.seen

-- so many loads of counters were made by this scan, and this history was seen at the first of them
pub record BeganScan (loads : ℕ) (e : EngineView) (first : List Event) : Type 0 where
  pub before : List Step
  pub found : ℕ
  pub rest : List Step
  pub steps : e.steps ≡ before ++ LoadUnlocks 0 (not_current e.changes) found (length first) ∷ rest
  pub count : counter_loads rest + 1 ≡ loads
  pub seen : IsBeginning first e.seen
  pub since_start : starts_in first ≡ starts_in e.seen

-- the sum of the unlock counters before p: no less than there was at the first load, and no more than there is
pub record InUnlocks (e : EngineView) (p ended : ℕ) : Type 0 where
  pub scanning : IsScanning e
  pub there : p < e.processors
  pub began : 0 < p → (first : List Event) × BeganScan p e first × (sum_below (λ q. unlocks q (not_current e.changes) first) p ≤ ended)
  pub most : ended ≤ sum_below (λ q. unlocks q (not_current e.changes) e.seen) p

-- all unlock counters were added up by `middle`, and of the lock counters those before p since then
pub record InLocks (e : EngineView) (p ended begun : ℕ) : Type 0 where
  pub scanning : IsScanning e
  pub there : p < e.processors
  pub first : List Event
  pub middle : List Event
  pub began : BeganScan (e.processors + p) e first
  pub in_order : IsBeginning first middle
  pub seen : IsBeginning middle e.seen
  pub since_start : starts_in middle ≡ starts_in e.seen
  pub ended_least : all_unlocks e.processors (not_current e.changes) first ≤ ended
  pub ended_most : ended ≤ all_unlocks e.processors (not_current e.changes) middle
  pub begun_least : sum_below (λ q. locks q (not_current e.changes) middle) p ≤ begun
  pub begun_most : begun ≤ sum_below (λ q. locks q (not_current e.changes) e.seen) p

pub record HasPassed (e : EngineView) : Type 0 where
  pub scanning : IsScanning e
  pub empty : WasEmpty (not_current e.changes) e.seen

pub record IsHalfFlipped (e : EngineView) (i : Index) : Type 0 where
  pub flipping : IsFlipping e.changes
  pub index : i ≡ current e.changes
  pub empty : WasEmpty i e.seen

abbrev pub IsAt : EngineView → Place → Type 0
IsAt e Idle = IsIdle e.changes
IsAt e (Wanted n) = IsIdle e.changes × (number_word e.changes < 4 * e.periods) × (number_word e.changes < n)
IsAt e (Unlocks p ended) = InUnlocks e p ended
IsAt e (Locks p ended begun) = InLocks e p ended begun
IsAt e Passed = HasPassed e
IsAt e (Flipped i) = IsHalfFlipped e i

-- an engine with this seat, at this place
abbrev pub rests_at : EngineView → Place → ScanView
rests_at e place = record { seat = e; need = wanted place; so_far = so_far e.processors place; began = began e place }

-- and at work with these needs
abbrev pub viewed : {N : Type 0} → EngineView → N → Place → AtWork N
viewed e needs place = at_work needs (rests_at e place)

-- what is always true of an engine's seat and place
pub record IsReady (e : EngineView) (place : Place) : Type 0 where
  pub history : IsSeenByEngine e
  pub some : 1 ≤ e.processors
  pub place_is : IsAt e place

-- how far the domain has come at this place
abbrev pub standing_at : EngineView → Place → Standing
standing_at e place = record { processors = e.processors; periods = e.periods; history = e.seen; changes = e.changes; so_far = so_far e.processors place; began = began e place }

-- one step was made at the seat, from a place to a place, with this answer
pub record Moves (e : EngineView) (place : Place) (f : EngineView) (next : Place) (a : Progress) : Type 0 where
  pub same : IsSameEngine e f
  pub history : IsSeenByEngine f
  pub events : f.mine ≡ e.mine ++ events_of a
  pub made : List Step
  pub steps : f.steps ≡ e.steps ++ made
  pub one : length (events_of a) + length made ≡ 1
  pub in_order : (made ≡ []) ⊎ (l : Step) × (made ≡ l ∷ []) × IsStepAt e.processors (so_far e.processors place) (not_current e.changes) l
  pub others : List Event
  pub answered : IsAnswered others (wanted place) a (standing_at e place) (standing_at f next)
  pub shows : Shows a (wanted place) (standing_at e place) (standing_at f next) answered.says f
  pub counts : Counts e.processors a (so_far e.processors place) (so_far f.processors next)
  pub place_is : IsAt f next
  -- none is wanted from then on, and a scan that goes on is the one that began
  pub not_wanted : (n : ℕ) → next ≢ Wanted n
  pub scan : 0 < so_far f.processors next → FirstLoaded (began f next) (so_far e.processors place) (began e place) e.seen f.seen

-- What the calls of the engine do.
use Rattle.std.specs.Prelude.{◌≡◌, ℕ, ◌+◌, ◌*◌, ◌<◌, ◌≤◌, ◌⊎◌, Bool, true, false, List, [], ◌∷◌, ◌++◌, length, count_by}
use Rattle.sseq.specs.declared.index.Index.{Index}
use Rattle.onedom.specs.declared.event.Maker.TheVariants.{Engine}
use Rattle.onedom.specs.declared.event.Event.{Event}
use Rattle.onedom.specs.declared.event.Event.TheVariants.{Start}
use Rattle.onedom.specs.Histories.{IsRunning}
use Rattle.sections.specs.declared.view.Step.{Step}
use Rattle.sections.specs.declared.view.Step.TheVariants.{LoadIndex, LoadUnlocks, LoadLocks, AddIndex, AddNumber, LoadWord}
use Rattle.sections.specs.Views.{EngineView}
use Rattle.sections.specs.EngineCalls.{IsSeenByEngine, IsSameEngine, AddsEngineEvent}
use Rattle.scan.specs.declared.progress.Progress.{Progress}
use Rattle.scan.specs.declared.progress.Progress.TheVariants as answer
use Rattle.scan.specs.declared.progress.Pace.{Pace}
use Rattle.scan.specs.declared.progress.Pace.TheVariants as pace
use Rattle.scan.specs.declared.progress.NotStarted.{NotStarted}
use Rattle.scan.specs.declared.progress.NotStarted.TheVariants as refusal
use Rattle.scan.specs.Standings.{Standing, not_current, number_at_rest, events_of, leads_on, steps_for, Says, IsAnswered, Steps, Advances, Starts, IsOutOfPeriods}

-- `seat` is the engine's seat. Of what is half done, `so_far` says how many steps were made; `need` is the number that was found to be asked for, where a period is wanted, and `began` how long the history was at the first load, where it is a scan
pub record ScanView : Type 0 where
  pub seat : EngineView
  pub need : ℕ
  pub so_far : ℕ
  pub began : ℕ

-- the same of an engine at work, with the needs that it is lent
pub record AtWork (N : Type 0) : Type 0 where
  pub seat : EngineView
  pub needs : N
  pub need : ℕ
  pub so_far : ℕ
  pub began : ℕ

abbrev pub at_work : {N : Type 0} → N → ScanView → AtWork N
at_work needs v = record { seat = v.seat; needs = needs; need = v.need; so_far = v.so_far; began = v.began }

abbrev pub rested : {N : Type 0} → AtWork N → ScanView
rested v = record { seat = v.seat; need = v.need; so_far = v.so_far; began = v.began }

-- an answer, and the engine behind it
pub record Stage (N : Type 0) : Type 0 where
  pub answer : Progress
  pub engine : AtWork N

-- an engine with this seat, and with nothing half done
abbrev pub new_engine : EngineView → ScanView
new_engine seat = record { seat = seat; need = 0; so_far = 0; began = 0 }

abbrev pub with_seat : EngineView → ScanView → ScanView
with_seat seat v = record v { seat = seat }

-- how far the domain has come, as the engine knows it
abbrev pub known_by : ScanView → Standing
known_by v = record { processors = v.seat.processors; periods = v.seat.periods; history = v.seat.seen; changes = v.seat.changes; so_far = v.so_far; began = v.began }

-- a period starts, asked for or not; the need is not loaded, and one that was found is used up
pub record StartsTo (v : ScanView) (n : ℕ) (w : ScanView) : Type 0 where
  pub others : List Event
  pub starts : Starts others n (known_by v) (known_by w)
  pub event : AddsEngineEvent (Start Engine) v.seat w.seat
  pub no_need : w.need ≡ 0

abbrev pub IsNoStart : ScanView → NotStarted → Type 0
IsNoStart v refusal.Running = IsRunning v.seat.seen
IsNoStart v refusal.Exhausted = IsOutOfPeriods (known_by v)

-- a load of a counter
abbrev pub is_counter_load : Step → Bool
is_counter_load (LoadUnlocks p i found seen) = true
is_counter_load (LoadLocks p i found seen) = true
is_counter_load s = false

abbrev pub counter_loads : List Step → ℕ
counter_loads steps = count_by is_counter_load steps

-- where so many steps are half done of a scan of index i and of what follows it, the step at the seat is this: the unlock counters by rising processor, then the lock counters, then the two steps of the flip
abbrev pub IsStepAt : ℕ → ℕ → Index → Step → Type 0
IsStepAt processors so_far i (LoadUnlocks p j found seen) = (p ≡ so_far) × (p < processors) × (j ≡ i)
IsStepAt processors so_far i (LoadLocks p j found seen) = (p + processors ≡ so_far) × (p < processors) × (j ≡ i)
IsStepAt processors so_far i (AddIndex n) = so_far ≡ 2 * processors
IsStepAt processors so_far i (AddNumber n) = so_far ≡ 2 * processors + 1
IsStepAt processors so_far i (LoadIndex n) = ⊥
IsStepAt processors so_far i (LoadWord c v x n) = ⊥

-- as many loads of counters as a scan makes were the last ones, the first of them of this index, when the history was `since` long
pub record HasScanned (i : Index) (since : ℕ) (e : EngineView) : Type 0 where
  pub before : List Step
  pub found : ℕ
  pub rest : List Step
  pub steps : e.steps ≡ before ++ LoadUnlocks 0 i found since ∷ rest
  pub loads : counter_loads rest + 1 ≡ 2 * e.processors

-- the last step at the seat was the second one of the flip
pub record HasTold (e : EngineView) : Type 0 where
  pub before : List Step
  pub number : ℕ
  pub flip : e.steps ≡ before ++ AddNumber number ∷ []

-- what the seat shows of an answer: where it waits, the scan; where it has flipped, the flip
abbrev pub Shows : (a : Progress) (need : ℕ) (s s' : Standing) → Says a need s s' → EngineView → Type 0
Shows (answer.Waiting i) need s s' says e = HasScanned i says.since e
Shows (answer.Flipped i) need s s' says e = HasTold e
Shows a need s s' says e = Unit {0}

-- Calls

module _ {N : Type 0} where
  abbrev pub standing_of : AtWork N → Standing
  standing_of v = known_by (rested v)

  -- the same engine was made to go on to an answer, behind these events of others; `made` are the steps at its seat, without its events
  pub record GetsOn (a : Progress) (v w : AtWork N) : Type 0 where
    pub same : IsSameEngine v.seat w.seat
    pub history : IsSeenByEngine w.seat
    pub events : w.seat.mine ≡ v.seat.mine ++ events_of a
    pub made : List Step
    pub steps : w.seat.steps ≡ v.seat.steps ++ made
    pub others : List Event

  -- `loads` says what one load of the needs does
  module _ (loads : N → ℕ → N → Type 0) where
    -- the need is loaded at rest where nothing is half done, once, and nowhere else; `need` is the number that is then found to be asked for, or that was found before
    pub record NeedsLoaded (v w : AtWork N) : Type 0 where
      pub count : ℕ
      pub need : ℕ
      pub at_rest : ¬ IsRunning v.seat.seen → v.so_far ≡ 0 → (count ≡ 1) × loads v.needs need w.needs
      pub busy : IsRunning v.seat.seen ⊎ (0 < v.so_far) → (count ≡ 0) × (w.needs ≡ v.needs) × (need ≡ v.need)

    -- one atomic step was made: an event, a load of the need, or the step at the seat that comes next
    pub record StepsTo (v : AtWork N) (a : Progress) (w : AtWork N) : Type 0 where
      pub goes_on : GetsOn a v w
      pub needs : NeedsLoaded v w
      pub step : Steps goes_on.others needs.need a (standing_of v) (standing_of w)
      pub shows : Shows a needs.need (standing_of v) (standing_of w) step.answered.says w.seat
      pub one : length (events_of a) + length goes_on.made + needs.count ≡ 1
      pub alone : 0 < needs.count → w.seat ≡ v.seat
      pub in_order : (goes_on.made ≡ []) ⊎ (l : Step) × (goes_on.made ≡ l ∷ []) × IsStepAt v.seat.processors v.so_far (not_current v.seat.changes) l
      pub need : 0 < w.so_far → w.need ≡ needs.need
      pub no_need : w.so_far ≡ 0 → w.need ≡ 0

    -- steps were made until there was an answer. What that says of all of them together: there were as many as the answer takes, including those that were made before the call
    pub record AdvancesTo (v : AtWork N) (a : Progress) (w : AtWork N) : Type 0 where
      pub advances : Advances (λ b x y. StepsTo x b y) a v w
      pub goes_on : GetsOn a v w
      pub needs : NeedsLoaded v w
      pub answered : IsAnswered goes_on.others needs.need a (standing_of v) (standing_of w)
      pub shows : Shows a needs.need (standing_of v) (standing_of w) answered.says w.seat
      pub steps : length (events_of a) + length goes_on.made + needs.count + v.so_far ≡ steps_for v.seat.processors a
      pub due : v.so_far < steps_for v.seat.processors a
      pub done : w.so_far ≡ 0
      pub no_need : w.need ≡ 0

    -- one step, or steps until there was an answer
    abbrev pub GoesOn : (once : Bool) → AtWork N → Progress → AtWork N → Type 0
    GoesOn true v a w = StepsTo v a w
    GoesOn false v a w = AdvancesTo v a w

    -- one answer behind the other: these on the way, each of which started a period or flipped the index, and then this one
    abbrev pub AdvancesThrough : List (Stage N) → AtWork N → Progress → AtWork N → Type 0
    AdvancesThrough [] v a w = AdvancesTo v a w
    AdvancesThrough (s ∷ ss) v a w = AdvancesTo v s.answer s.engine × (leads_on s.answer ≡ true) × AdvancesThrough ss s.engine a w

    -- the engine carried on from answer to answer for as long as it got on by itself. The last one is that a period ended, that a scan waits for a section, or that there was nothing to do
    pub record CarriesOn (v : AtWork N) (a : Progress) (w : AtWork N) : Type 0 where
      pub same : IsSameEngine v.seat w.seat
      pub stages : List (Stage N)
      pub through : AdvancesThrough stages v a w
      pub stops : leads_on a ≡ false
      -- a period starts, flips and ends, each once
      pub few : length stages ≤ 2

    -- at this pace
    abbrev pub Paces : Pace → AtWork N → Progress → AtWork N → Type 0
    Paces pace.Step v a w = StepsTo v a w
    Paces pace.Answer v a w = AdvancesTo v a w
    Paces pace.Period v a w = CarriesOn v a w

    -- a period is asked for, and as many have ended as there may be; just the need was loaded
    pub record FindsExhausted (v w : AtWork N) : Type 0 where
      pub nothing_half : v.so_far ≡ 0
      pub seat : w.seat ≡ v.seat
      pub need : ℕ
      pub load : loads v.needs need w.needs
      pub still_nothing : w.so_far ≡ 0
      pub out : IsOutOfPeriods (standing_of w)
      pub asked : number_at_rest w.seat.seen < need
      pub rest : w ≡ record v { needs = w.needs }

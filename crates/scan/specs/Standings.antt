-- How far a domain has come, and what the engine's answers say of it.
use Rattle.std.specs.Prelude.{◌≡◌, ◌≢◌, ℕ, ◌+◌, ◌-◌, ◌*◌, ◌<◌, ◌≤◌, List, [], ◌∷◌, ◌++◌, length, Bool, true, false}
use Rattle.sseq.specs.declared.index.Index.{Index}
use Rattle.sseq.specs.Indexes.{low_bit, other_index}
use Rattle.onedom.specs.declared.event.Maker.TheVariants.{Engine}
use Rattle.onedom.specs.declared.event.Event.{Event}
use Rattle.onedom.specs.declared.event.Event.TheVariants.{Start, Finish}
use Rattle.onedom.specs.Histories.{ended_in, IsOpen, index_of, IsLegal, IsRunning, WasEmpty, IsBeginning}
use Rattle.sections.specs.Words.{index_word, number_word, Reaches, IsBehindFlip}
use Rattle.scan.specs.declared.progress.Progress.{Progress}
use Rattle.scan.specs.declared.progress.Progress.TheVariants as answer

-- So many grace periods may end (`periods`), and the engine has changed the number and the index word so often (`changes`). Of what is half done, `so_far` says how many steps were made, and `began` how long the history was at the first load of the scan
pub record Standing : Type 0 where
  pub processors : ℕ
  pub periods : ℕ
  pub history : List Event
  pub changes : ℕ
  pub so_far : ℕ
  pub began : ℕ

-- Numbers and indexes

-- the index that a look finds where so many changes were made
abbrev pub current : ℕ → Index
current changes = low_bit (index_word changes)

-- the other one, which is scanned
abbrev pub not_current : ℕ → Index
not_current changes = other_index (current changes)

-- the index that a look finds now
abbrev pub index_now : Standing → Index
index_now s = current s.changes

-- the number
abbrev pub number_now : Standing → ℕ
number_now s = number_word s.changes

-- four times the ended periods: the number of a domain in which no period runs
abbrev pub number_at_rest : List Event → ℕ
number_at_rest history = 4 * ended_in history

-- What is done with an answer

-- the events that are made
abbrev pub events_of : Progress → List Event
events_of (answer.Started n) = Start Engine ∷ []
events_of (answer.Ended n) = Finish Engine ∷ []
events_of a = []

-- whether there is more to do at once behind an answer: the scans of a period that has started, or has flipped
abbrev pub leads_on : Progress → Bool
leads_on (answer.Started n) = true
leads_on (answer.Flipped i) = true
leads_on a = false

-- how many atomic steps an answer takes in all, in a domain of so many processors: a scan loads two counters of each
abbrev pub steps_for : ℕ → Progress → ℕ
steps_for processors answer.Idle = 1
steps_for processors (answer.Started n) = 2
steps_for processors (answer.Waiting i) = 2 * processors
steps_for processors (answer.Flipped i) = 2 * processors + 2
steps_for processors (answer.Ended n) = 2 * processors + 1
steps_for processors answer.Step = 0

-- what was half done: one step more of it, or it is done
abbrev pub Counts : ℕ → Progress → ℕ → ℕ → Type 0
Counts processors answer.Step before after = after ≡ before + 1
Counts processors a before after = (before + 1 ≡ steps_for processors a) × (after ≡ 0)

-- how often the number and the index word are changed in all on the way to an answer
abbrev pub changes_for : Progress → ℕ
changes_for answer.Idle = 0
changes_for (answer.Started n) = 1
changes_for (answer.Flipped i) = 2
changes_for (answer.Ended n) = 1
changes_for (answer.Waiting i) = 0
changes_for answer.Step = 0

-- how often they were changed where so many steps are half done: what comes behind the loads of a scan are the steps of the flip, and each is a change
abbrev pub changes_so_far : ℕ → ℕ → ℕ
changes_so_far processors so_far = so_far - 2 * processors

-- What an answer says

-- at a moment from the first history on, up to the second, a section of the index was open
pub record WasOpenIn (i : Index) (seen seen' : List Event) : Type 0 where
  pub moment : List Event
  pub since : IsBeginning seen moment
  pub upto : IsBeginning moment seen'
  pub section : ℕ
  pub is_open : IsOpen moment section
  pub of_index : index_of section moment ≡ i

-- on the way from one history to another, of a scan whose first load was made when the history was `since` long: where so much was half done before, that was noted (`began`); where nothing was, the load was made on the way
pub record FirstLoaded (since so_far began : ℕ) (seen seen' : List Event) : Type 0 where
  pub before : 0 < so_far → since ≡ began
  pub now : so_far ≡ 0 → (length seen ≤ since) × (since ≤ length seen')

-- this is now the current index, and at a moment since the start no section of it was open
pub record HasFlipped (i : Index) (s : Standing) : Type 0 where
  pub running : IsRunning s.history
  pub behind : IsBehindFlip s.changes
  pub index : i ≡ low_bit (ended_in s.history + 1)
  pub empty : WasEmpty i s.history

-- the index is not the current one, and at a moment since the first load of the scan, at which the history was `since` long, a section of it was open
pub record WaitsFor (i : Index) (s s' : Standing) : Type 0 where
  pub running : IsRunning s'.history
  pub index : i ≡ not_current s'.changes
  pub since : ℕ
  pub first : FirstLoaded since s.so_far s.began s.history s'.history
  pub moment : List Event
  pub upto : IsBeginning moment s'.history
  pub after : since ≤ length moment
  pub section : ℕ
  pub is_open : IsOpen moment section
  pub of_index : index_of section moment ≡ i

-- what an answer says on the way from one standing to another, where this was found to be the need: with no need no period is started. A step that leaves a whole scan half done says that it has passed
abbrev pub Says : Progress → ℕ → Standing → Standing → Type 0
Says answer.Idle need s s' = (¬ IsRunning s'.history) × (need ≤ number_at_rest s'.history)
Says (answer.Started n) need s s' = (n ≡ number_at_rest s'.history + 1) × (number_at_rest s'.history < need) × (ended_in s'.history < s'.periods)
Says (answer.Flipped i) need s s' = HasFlipped i s'
Says (answer.Ended n) need s s' = (n ≡ number_at_rest s'.history) × ((i : Index) → WasEmpty i s'.history)
Says (answer.Waiting i) need s s' = WaitsFor i s s'
Says answer.Step need s s' = 2 * s.processors ≤ s'.so_far → WasEmpty (not_current s.changes) s'.history

-- a number that an answer tells is at most four times as much as there may be grace periods
abbrev pub IsWithin : ℕ → Progress → Type 0
IsWithin periods (answer.Started n) = n ≤ 4 * periods
IsWithin periods (answer.Ended n) = n ≤ 4 * periods
IsWithin periods a = Unit {0}

-- What the engine does

-- on the way to an answer the engine has made its events, behind these of others. The history is legal, and the number and the index word agree with it
pub record IsAnswered (others : List Event) (need : ℕ) (a : Progress) (s s' : Standing) : Type 0 where
  pub same : (s'.processors ≡ s.processors) × (s'.periods ≡ s.periods)
  pub events : s'.history ≡ s.history ++ (others ++ events_of a)
  pub legal : IsLegal s'.history
  pub agree : Reaches s'.changes s'.history
  pub changes : s'.changes + changes_so_far s.processors s.so_far ≡ s.changes + changes_for a + changes_so_far s.processors s'.so_far
  pub says : Says a need s s'

-- one atomic step was made. Where there is more to do: the scan that is half done, or the period that is wanted
pub record Steps (others : List Event) (need : ℕ) (a : Progress) (s s' : Standing) : Type 0 where
  pub answered : IsAnswered others need a s s'
  pub counts : Counts s.processors a s.so_far s'.so_far
  pub few : s'.so_far ≤ 2 * s.processors + 1
  pub scan : IsRunning s.history → 0 < s'.so_far → IsRunning s'.history × FirstLoaded s'.began s.so_far s.began s.history s'.history
  pub wanted : ¬ IsRunning s.history → 0 < s'.so_far → (number_at_rest s'.history < need) × (ended_in s'.history < s'.periods) × (s'.so_far ≡ 1)

-- `step` says what one step does
module _ {X : Type 0} (step : Progress → X → X → Type 0) where
  -- steps without an answer, to one of these after another, and then one with this answer
  abbrev pub StepsThrough : List X → Progress → X → X → Type 0
  StepsThrough [] a x y = step a x y
  StepsThrough (z ∷ zs) a x y = step answer.Step x z × StepsThrough zs a z y

  -- steps were made until there was an answer
  pub record Advances (a : Progress) (x y : X) : Type 0 where
    pub between : List X
    pub through : StepsThrough between a x y
    pub answer : a ≢ answer.Step

-- a grace period starts, asked for or not, behind these events of others. Nothing is half done of it, and n is the number then
pub record Starts (others : List Event) (n : ℕ) (s s' : Standing) : Type 0 where
  pub room : ended_in s.history < s.periods
  pub same : (s'.processors ≡ s.processors) × (s'.periods ≡ s.periods)
  pub events : s'.history ≡ s.history ++ (others ++ Start Engine ∷ [])
  pub legal : IsLegal s'.history
  pub agree : Reaches s'.changes s'.history
  pub changes : s'.changes ≡ s.changes + 1
  pub done : s'.so_far ≡ 0
  pub number : n ≡ number_at_rest s'.history + 1

-- no grace period runs, and as many have ended as there may be
pub record IsOutOfPeriods (s : Standing) : Type 0 where
  pub resting : ¬ IsRunning s.history
  pub full : ended_in s.history ≡ s.periods

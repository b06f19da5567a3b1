-- Taking a domain down: which processors are missing, why it is refused, and what is told of it in the end.
use Rattle.std.specs.Prelude.{◌≡◌, ℕ, ◌+◌, ◌%◌, ◌<◌, ◌==◌, if◌then◌else◌, Bool, Result, MatchResult, List, length, slice_index_or}
use Rattle.std.specs.List.{list_any}
use Rattle.onedom.specs.declared.event.Event.{Event}
use Rattle.onedom.specs.Histories.{open_sections, ended_in, IsRunning}
use Rattle.sections.specs.Words.{sum_below, opened_in, closed_in}
use Rattle.domain.specs.declared.domain.cleanup.InUse.{InUse}
use Rattle.domain.specs.declared.domain.cleanup.InUse.TheVariants.{Missing, Sections, Period, Callbacks}
use Rattle.domain.specs.declared.domain.cleanup.Totals.{Totals}
use Rattle.domain.specs.Views.{DomainView, CpuView, IsOf, IsSameProcessor}
use Rattle.domain.specs.Parts.{Each}
use Rattle.calls.specs.declared.view.Deed.{Deed}
use Rattle.calls.specs.Totals.{all_queued, all_finished}
use Rattle.domain.specs.Counts.{IsHistoryOf, AreDeedsOf, AreBack}

-- Who is there

module _ {J : Type 0} where
  -- whether the processor of this number is among these
  abbrev pub is_there : ℕ → List (CpuView J) → Bool
  is_there p cpus = list_any (λ c. c.cpu.processor == p) cpus

  -- how many of so many processors are not
  abbrev pub missing_of : ℕ → List (CpuView J) → ℕ
  missing_of processors cpus = sum_below (λ p. if is_there p cpus then 0 else 1) processors

-- What was done

-- how many sections are open
abbrev pub open_count : List Event → ℕ
open_count history = length (open_sections history)

-- all that was done, as it counts for taking a domain down: its history, how many calls were queued, and how many of these are finished
pub record Whole : Type 0 where
  pub history : List Event
  pub queued : ℕ
  pub finished : ℕ

module _ {J : Type 0} where
  -- on so many processors
  abbrev pub whole_of : ℕ → List Event → List (Deed J) → Whole
  whole_of processors history all = record { history = history; queued = all_queued processors all; finished = all_finished processors all }

-- no section is open, no grace period runs, and each call that was queued is finished
pub record IsUnused (w : Whole) : Type 0 where
  pub closed : open_count w.history ≡ 0
  pub rests : ¬ IsRunning w.history
  pub run : w.queued ≡ w.finished

-- the counts of all that was done
pub record AreTotals (w : Whole) (t : Totals) : Type 0 where
  pub opened : t.opened ≡ opened_in w.history
  pub closed : t.closed ≡ closed_in w.history
  pub queued : t.queued ≡ w.queued
  pub finished : t.finished ≡ w.finished
  pub periods : t.periods ≡ ended_in w.history

-- why a domain in which this was done is in use: the first cause that holds. Who is missing is another matter
abbrev pub IsCause : Whole → InUse → Type 0
IsCause w (Missing n) = ⊥
IsCause w (Sections n) = (n ≡ open_count w.history) × (0 < n)
IsCause w Period = (open_count w.history ≡ 0) × IsRunning w.history
IsCause w (Callbacks n) = (open_count w.history ≡ 0) × (¬ IsRunning w.history) × (w.queued ≡ w.finished + n) × (0 < n)

-- Answers

module _ {J : Type 0} where
  -- of all that was done it is said that the domain is not in use, and its totals are told; or it is said why it is in use. All processors have then seen it, and are as they were
  pub record IsJudged (d : DomainView) (cpus : List (CpuView J)) (answer : Result Totals InUse) (cpus' : List (CpuView J)) : Type 0 where
    pub history : List Event
    pub of_all : IsHistoryOf d cpus history
    pub all : List (Deed J)
    pub deeds_of_all : AreDeedsOf d cpus all
    pub says : MatchResult answer (λ t. IsUnused (whole_of d.processors history all) × AreTotals (whole_of d.processors history all) t) (IsCause (whole_of d.processors history all))
    pub back : AreBack d history all cpus cpus'

  -- the domain was taken down: no processor is missing, and it is not in use
  pub record IsTakenDown (d : DomainView) (cpus : List (CpuView J)) (t : Totals) : Type 0 where
    pub none_missing : missing_of d.processors cpus ≡ 0
    pub history : List Event
    pub of_all : IsHistoryOf d cpus history
    pub all : List (Deed J)
    pub deeds_of_all : AreDeedsOf d cpus all
    pub unused : IsUnused (whole_of d.processors history all)
    pub totals : AreTotals (whole_of d.processors history all) t

  -- no processor is missing, and the domain is in use for this cause. It is handed back with its processors
  pub record IsInUse (d : DomainView) (cpus : List (CpuView J)) (cause : InUse) (d' : DomainView) (cpus' : List (CpuView J)) : Type 0 where
    pub none_missing : missing_of d.processors cpus ≡ 0
    pub history : List Event
    pub of_all : IsHistoryOf d cpus history
    pub all : List (Deed J)
    pub deeds_of_all : AreDeedsOf d cpus all
    pub is : IsCause (whole_of d.processors history all) cause
    pub domain : d' ≡ d
    pub back : AreBack d history all cpus cpus'

  -- so many processors are missing, and all is handed back as it was; or the domain is in use
  abbrev pub IsRefused : DomainView → List (CpuView J) → InUse → DomainView → List (CpuView J) → Type 0
  IsRefused d cpus (Missing n) d' cpus' = (n ≡ missing_of d.processors cpus) × (0 < n) × (d' ≡ d) × (cpus' ≡ cpus)
  IsRefused d cpus (Sections n) d' cpus' = IsInUse d cpus (Sections n) d' cpus'
  IsRefused d cpus Period d' cpus' = IsInUse d cpus Period d' cpus'
  IsRefused d cpus (Callbacks n) d' cpus' = IsInUse d cpus (Callbacks n) d' cpus'

  -- the domain and the processors, each the same as before and still of the domain
  pub record IsHandedBack (d : DomainView) (cpus : List (CpuView J)) (d' : DomainView) (cpus' : List (CpuView J)) : Type 0 where
    pub domain : d' ≡ d
    pub count : length cpus' ≡ length cpus
    pub here : Each (IsOf d') cpus'
    pub same : (k : ℕ) (c : CpuView J) → k < length cpus → IsSameProcessor (slice_index_or cpus k c) (slice_index_or cpus' k c)

-- From the counts alone

-- with these totals and this number nothing is left
pub record IsNothingLeft (t : Totals) (number : ℕ) : Type 0 where
  pub closed : t.opened ≡ t.closed
  pub rests : number % 4 ≡ 0
  pub finished : t.queued ≡ t.finished

-- the first of what is left
abbrev pub IsLeft : Totals → ℕ → InUse → Type 0
IsLeft t number (Missing n) = ⊥
IsLeft t number (Sections n) = (t.opened ≡ t.closed + n) × (0 < n)
IsLeft t number Period = (t.opened ≡ t.closed) × (0 < number % 4)
IsLeft t number (Callbacks n) = (t.opened ≡ t.closed) × (number % 4 ≡ 0) × (t.queued ≡ t.finished + n) × (0 < n)

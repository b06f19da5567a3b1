-- All processors of one domain, in one hand, and its engine: what is true of them when they have met.
use Rattle.std.specs.Prelude.{◌≡◌, ◌%◌, ◌<◌, ℕ, List, Some, length, slice_index_or}
use Rattle.atomic_table.specs.Seated.{TableId}
use Rattle.onedom.specs.declared.event.Maker.TheVariants.{Processor, Engine}
use Rattle.onedom.specs.declared.event.Event.{Event}
use Rattle.onedom.specs.Histories.{made_by, IsRunning}
use Rattle.sections.specs.declared.limits.Limits.{Limits}
use Rattle.sections.specs.Limits.{AreInRange}
use Rattle.sections.specs.Views as sections
use Rattle.sections.specs.Views.{EngineView}
use Rattle.sections.specs.EngineCalls.{IsSeenByEngine}
use Rattle.sections.specs.Making.{IsCount}
use Rattle.funnel.specs.declared.view.Raise.{Raise}
use Rattle.funnel.specs.Histories.{raised_by, value, greatest}
use Rattle.funnel.specs.Calls.{IsSeenBy}
use Rattle.desk.specs.Swaps.{Swap}
use Rattle.desk.specs.BayCalls.{lies, HasSeenLegal}
use Rattle.scan.specs.Standings.{number_at_rest}
use Rattle.calls.specs.declared.view.Deed.{Deed}
use Rattle.calls.specs.Tallies.{AreTakers}
use Rattle.domain.specs.Views as domain
use Rattle.domain.specs.Views.{DomainView, CpuView}
use Rattle.domain.specs.Meetings.{IsAllOf}

-- the engine, as it lies between two acts
abbrev pub View : Type 0
View = domain.Engine

-- Sections

-- processor k of the domain, with just its own events of the history
pub record Holds (limits : Limits) (table : TableId) (processors : ℕ) (history : List Event) (k : ℕ) (c : sections.CpuView) : Type 0 where
  pub domain : c.domain ≡ table
  pub processors_are : c.processors ≡ processors
  pub sections : c.sections ≡ limits.sections
  pub processor : c.processor ≡ k
  pub mine : c.mine ≡ made_by (Processor k) history

-- a period is wanted: it is asked for
pub record IsWanted (asked : ℕ) (v : View) : Type 0 where
  pub need : v.need ≡ asked
  pub above : number_at_rest v.seat.seen < v.need

module _ {J : Type 0} where
  -- all processors and the engine, each with just its own events of the history
  pub record AllHold (limits : Limits) (history : List Event) (cpus : List (CpuView J)) (e : EngineView) : Type 0 where
    pub in_range : AreInRange limits
    pub periods : e.periods ≡ limits.periods
    pub count : IsCount e.processors
    pub all : length cpus ≡ e.processors
    pub engine : e.mine ≡ made_by Engine history
    pub each : (k : ℕ) (d : CpuView J) → k < length cpus → Holds limits e.domain e.processors history k (slice_index_or cpus k d).cpu

  -- all of them have seen one history, all changes of the engine, and the words of all versions that were put
  pub record AreTogether (limits : Limits) (cpus : List (CpuView J)) (e : EngineView) : Type 0 where
    pub hold : AllHold limits e.seen cpus e
    pub history : IsSeenByEngine e
    pub seen : (k : ℕ) (d : CpuView J) → k < length cpus → (slice_index_or cpus k d).cpu.seen ≡ e.seen
    pub changes : (k : ℕ) (d : CpuView J) → k < length cpus → (slice_index_or cpus k d).cpu.changes ≡ e.changes
    pub texts : (k : ℕ) (d : CpuView J) → k < length cpus → (slice_index_or cpus k d).cpu.texts ≡ e.texts

  -- Needs

  -- all processors have seen just these raises at the tree, each has just its own, and the root holds the greatest number
  pub record AskTogether (raises : List Raise) (cpus : List (CpuView J)) : Type 0 where
    pub mine : (k : ℕ) (d : CpuView J) → k < length cpus → (slice_index_or cpus k d).needs.mine ≡ raised_by k raises
    pub seen : (k : ℕ) (d : CpuView J) → k < length cpus → (slice_index_or cpus k d).needs.seen ≡ raises
    pub history : (k : ℕ) (d : CpuView J) → k < length cpus → IsSeenBy (slice_index_or cpus k d).needs
    pub root : value 0 raises ≡ greatest raises

  -- Turns

  -- all processors have seen just these swaps, behind which this engine lies there
  pub record TurnTogether (swaps : List (Swap View)) (cpus : List (CpuView J)) (v : View) : Type 0 where
    pub number : (k : ℕ) (d : CpuView J) → k < length cpus → (slice_index_or cpus k d).turn.number ≡ k
    pub seats : (k : ℕ) (d : CpuView J) → k < length cpus → (slice_index_or cpus k d).turn.seats ≡ length cpus
    pub seen : (k : ℕ) (d : CpuView J) → k < length cpus → (slice_index_or cpus k d).turn.seen ≡ swaps
    pub lying : (d : CpuView J) → lies (slice_index_or cpus 0 d).turn ≡ Some v
    pub history : (d : CpuView J) → HasSeenLegal (slice_index_or cpus 0 d).turn

  -- Calls

  -- all processors have seen just these deeds at the domain's tally words, each at its own seat, and all batches were finished by these processors
  pub record TallyTogether (d : DomainView) (deeds : List (Deed J)) (cpus : List (CpuView J)) : Type 0 where
    pub seats : (k : ℕ) (c : CpuView J) → k < length cpus → (slice_index_or cpus k c).calls ≡ record { domain = d.domain; tallies = d.tallies; processors = length cpus; processor = k; seen = deeds }
    pub takers : AreTakers (length cpus) deeds

  -- All of it

  -- all have met, this engine lies there, and what was asked for are cookies
  pub record HaveMet (d : DomainView) (limits : Limits) (cpus : List (CpuView J)) (v : View) : Type 0 where
    pub all : IsAllOf d cpus
    pub together : AreTogether limits cpus v.seat
    pub raises : List Raise
    pub ask_together : AskTogether raises cpus
    pub swaps : List (Swap View)
    pub turn_together : TurnTogether swaps cpus v
    pub deeds : List (Deed J)
    pub tally_together : TallyTogether d deeds cpus
    pub cookies : greatest raises % 4 ≡ 0
    pub wanted : ¬ IsRunning v.seat.seen → 0 < v.so_far → IsWanted (greatest raises) v

-- What was done in a domain in all, as it is counted with all of its processors in hand.
use Rattle.std.specs.Prelude.{◌≡◌, ℕ, ◌+◌, ◌<◌, ◌≤◌, ◌++◌, List, All, length, map, slice_index_or}
use Rattle.sseq.specs.declared.index.Index.TheVariants.{Zero, One}
use Rattle.onedom.specs.declared.event.Maker.TheVariants as maker
use Rattle.onedom.specs.declared.event.Event.{Event}
use Rattle.onedom.specs.Histories.{IsBeginning, IsLegal, made_by}
use Rattle.sections.specs.declared.view.Shown.TheVariants.{To}
use Rattle.sections.specs.Words.{opened_in, closed_in, number_word, Reaches}
use Rattle.sections.specs.Rule.{HasItsMaker}
use Rattle.sections.specs.Shelves.{IsStart}
use Rattle.sections.specs.Views as sections
use Rattle.sections.specs.Calls.{IsSeenBy, IsSameCpu}
use Rattle.sections.specs.EngineCalls.{IsSameEngine, Joins}
use Rattle.scan.specs.Progress.{with_seat}
use Rattle.calls.specs.declared.view.Deed.{Deed}
use Rattle.calls.specs.Tallies as deeds
use Rattle.calls.specs.Tallies.{deed, deeds_of, AreTrue, AreTakers}
use Rattle.calls.specs.Barriers.{queued_loads, finished_loads}
use Rattle.calls.specs.Totals.{all_queued, all_finished}
use Rattle.domain.specs.Views.{Engine, DomainView, CpuView, IsOf, with_cpu, with_calls}
use Rattle.scan.specs.Stations.{TakesTurn}
use Rattle.domain.specs.Parts.{Each, EachBecomes}
use Rattle.domain.specs.Loads.{LoadsCounters, IsBetween, AddsIndex}

-- What is counted

-- so many sections were begun, and so many have ended: of each index the counters were added up, of Zero first
pub record CountsSections (opened closed : ℕ) (c d : sections.CpuView) : Type 0 where
  pub loads : LoadsCounters c d
  pub middle : sections.CpuView
  pub zero : AddsIndex Zero c middle
  pub one : AddsIndex One middle d
  pub opened_is : opened ≡ zero.begun + one.begun
  pub closed_is : closed ≡ zero.ended + one.ended
  pub opened_are : IsBetween opened_in opened c.seen d.seen
  pub closed_are : IsBetween closed_in closed c.seen d.seen

-- Meeting for it

module _ {J : Type 0} where
  -- the processor has then seen just what the engine has
  pub record IsJoined (e : sections.EngineView) (c c' : CpuView J) : Type 0 where
    pub cpu : Joins c.cpu e.seen e.changes e.texts c'.cpu
    pub was : IsSeenBy c.cpu
    pub sized : c.cpu.processors ≡ e.processors
    pub heard : (changes : ℕ) → e.shown ≡ To c.cpu.processor changes → changes ≤ c.cpu.changes
    pub rest : c' ≡ with_cpu c'.cpu c

  -- The history of the domain: it is legal, goes on from what each of these processors had seen, and has just its own events of each of them. Of the engine's events it has those that one of them had seen
  pub record IsHistoryOf (d : DomainView) (cpus : List (CpuView J)) (history : List Event) : Type 0 where
    pub legal : IsLegal history
    pub makers : All (HasItsMaker d.processors) history
    pub since : Each (λ c. IsBeginning c.cpu.seen history) cpus
    pub own : Each (λ c. made_by (maker.Processor c.cpu.processor) history ≡ c.cpu.mine) cpus
    pub one : ℕ
    pub there : one < length cpus
    pub engine : (c : CpuView J) → made_by maker.Engine history ≡ made_by maker.Engine (slice_index_or cpus one c).cpu.seen

  -- the processor has then seen this history, and did nothing
  pub record HasMet (d : DomainView) (history : List Event) (c c' : CpuView J) : Type 0 where
    pub here : IsOf d c'
    pub same : IsSameCpu c.cpu c'.cpu
    pub mine : c'.cpu.mine ≡ c.cpu.mine
    pub seen : c'.cpu.seen ≡ history
    pub texts : IsStart c.cpu.texts c'.cpu.texts
    pub needs : c'.needs ≡ c.needs
    pub calls : c'.calls ≡ c.calls

  -- all of them have. The first one took the engine, which did nothing either, and put it back
  pub record HaveMet (d : DomainView) (history : List Event) (cpus cpus' : List (CpuView J)) : Type 0 where
    pub count : length cpus' ≡ length cpus
    pub each : (k : ℕ) (c : CpuView J) → k < length cpus → HasMet d history (slice_index_or cpus k c) (slice_index_or cpus' k c)
    pub found : Engine
    pub left : Engine
    pub rest : left ≡ with_seat left.seat found
    pub same : IsSameEngine found.seat left.seat
    pub mine : left.seat.mine ≡ found.seat.mine
    pub changes : left.seat.changes ≡ found.seat.changes
    pub seen : left.seat.seen ≡ history
    pub first : (c : CpuView J) → TakesTurn (slice_index_or cpus 0 c).turn found left (slice_index_or cpus' 0 c).turn
    pub others : (k : ℕ) (c : CpuView J) → 0 < k → k < length cpus → (slice_index_or cpus' k c).turn ≡ (slice_index_or cpus k c).turn

-- the sections of this history were counted, and this is its number
pub record CountsHistory (history : List Event) (opened closed number : ℕ) : Type 0 where
  pub opened_are : opened ≡ opened_in history
  pub closed_are : closed ≡ closed_in history
  pub changes : ℕ
  pub reaches : Reaches changes history
  pub number_is : number ≡ number_word changes

module _ {J : Type 0} where
  -- no processor is missing
  abbrev pub AreAllThere : DomainView → List (CpuView J) → Type 0
  AreAllThere d cpus = (p : ℕ) → p < d.processors → (k : ℕ) × (k < length cpus) × ((c : CpuView J) → (slice_index_or cpus k c).cpu.processor ≡ p)

  -- there is one history of all that was done, whose sections were counted
  pub record CountsInAll (d : DomainView) (cpus : List (CpuView J)) (opened closed number : ℕ) (cpus' : List (CpuView J)) : Type 0 where
    pub history : List Event
    pub of_all : IsHistoryOf d cpus history
    pub counts : CountsHistory history opened closed number
    pub back : HaveMet d history cpus cpus'

  -- Callbacks

  -- What was done at the tally words of the domain: it goes on from what each of these processors had seen, has just its own deeds of each of them, and no batch was finished by anybody else. Only the first one has loaded the words, each once, to count
  pub record AreDeedsOf (d : DomainView) (cpus : List (CpuView J)) (all : List (Deed J)) : Type 0 where
    pub since : Each (λ c. deeds.IsBeginning c.calls.seen all) cpus
    pub true : AreTrue all
    pub takers : AreTakers d.processors all
    pub queued : List ℕ
    pub finished : List ℕ
    pub one_each : (length queued ≡ d.processors) × (length finished ≡ d.processors)
    pub first : (c : CpuView J) → deeds_of (slice_index_or cpus 0 c).calls.processor all
        ≡ deeds_of (slice_index_or cpus 0 c).calls.processor (slice_index_or cpus 0 c).calls.seen ++ map (deed (slice_index_or cpus 0 c).calls.processor) (queued_loads 0 queued ++ finished_loads 0 finished)
    pub others : (k : ℕ) (c : CpuView J) → 0 < k → k < length cpus → deeds_of (slice_index_or cpus k c).calls.processor all ≡ deeds_of (slice_index_or cpus k c).calls.processor (slice_index_or cpus k c).calls.seen

  -- the processor's seat at the tally words has then seen just this
  pub record HasHeard (d : DomainView) (all : List (Deed J)) (c c' : CpuView J) : Type 0 where
    pub here : IsOf d c'
    pub calls : c'.calls ≡ record c.calls { seen = all }
    pub rest : c' ≡ with_calls c'.calls c

  -- the calls of all processors were counted
  pub record CountsCalls (d : DomainView) (cpus : List (CpuView J)) (queued finished : ℕ) (cpus' : List (CpuView J)) : Type 0 where
    pub all : List (Deed J)
    pub of_all : AreDeedsOf d cpus all
    pub queued_are : queued ≡ all_queued d.processors all
    pub finished_are : finished ≡ all_finished d.processors all
    pub within : finished ≤ queued
    pub back : EachBecomes (HasHeard d all) cpus cpus'

  -- All of it

  -- the processor has seen this history, and what was done at the tally words, and it did nothing but to load these
  pub record IsBack (d : DomainView) (history : List Event) (all : List (Deed J)) (c c' : CpuView J) : Type 0 where
    pub here : IsOf d c'
    pub same : IsSameCpu c.cpu c'.cpu
    pub mine : c'.cpu.mine ≡ c.cpu.mine
    pub seen : c'.cpu.seen ≡ history
    pub texts : IsStart c.cpu.texts c'.cpu.texts
    pub needs : c'.needs ≡ c.needs
    pub calls : c'.calls ≡ record c.calls { seen = all }

  -- all of them have. The first one took the engine, which did nothing, and put it back
  pub record AreBack (d : DomainView) (history : List Event) (all : List (Deed J)) (cpus cpus' : List (CpuView J)) : Type 0 where
    pub count : length cpus' ≡ length cpus
    pub each : (k : ℕ) (c : CpuView J) → k < length cpus → IsBack d history all (slice_index_or cpus k c) (slice_index_or cpus' k c)
    pub found : Engine
    pub left : Engine
    pub rest : left ≡ with_seat left.seat found
    pub same : IsSameEngine found.seat left.seat
    pub mine : left.seat.mine ≡ found.seat.mine
    pub changes : left.seat.changes ≡ found.seat.changes
    pub seen : left.seat.seen ≡ history
    pub first : (c : CpuView J) → TakesTurn (slice_index_or cpus 0 c).turn found left (slice_index_or cpus' 0 c).turn
    pub others : (k : ℕ) (c : CpuView J) → 0 < k → k < length cpus → (slice_index_or cpus' k c).turn ≡ (slice_index_or cpus k c).turn

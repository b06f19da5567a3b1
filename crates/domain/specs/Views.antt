-- What a caller knows of a domain, of its processors, and of the engine between two turns.
use Rattle.std.specs.Prelude.{◌≡◌, ℕ, false, MatchOption}
use Rattle.atomic_table.specs.Seated.{TableId}
use Rattle.sections.specs.Views as sections
use Rattle.sections.specs.Calls.{IsSameCpu}
use Rattle.scan.specs.Progress.{ScanView, AtWork}
use Rattle.funnel.specs.declared.view.Holder.TheVariants.{Processor}
use Rattle.funnel.specs.Views.{FunnelView}
use Rattle.funnel.specs.Calls.{IsSameSeat}
use Rattle.desk.specs.BayViews.{BaySeatView}
use Rattle.desk.specs.BayCalls.{holds}
use Rattle.calls.specs.Views.{CallSeatView, CallsView}
use Rattle.calls.specs.Calls as calls
use Rattle.calls.specs.Calls.{FitsIn}

-- the engine
abbrev pub Engine : Type 0
Engine = ScanView

-- and at work, with a processor's seat at the tree of needs
abbrev pub Working : Type 0
Working = AtWork FunnelView

-- `domain` is the domain's table, `tree` that of its tree of needs, `bay` that of the place where its engine lies, and `tallies` that of the tally words of its callbacks. It has so many processors, and so many grace periods may end in it (`periods`)
pub record DomainView : Type 0 where
  pub domain : TableId
  pub tree : TableId
  pub bay : TableId
  pub tallies : TableId
  pub processors : ℕ
  pub periods : ℕ

-- `cpu` is the processor's seat at the domain's words, `needs` at the tree of needs, `turn` at the place where the engine lies, and `calls` at the tally words of the callbacks
pub record CpuView (J : Type 0) : Type 0 where
  pub cpu : sections.CpuView
  pub needs : FunnelView
  pub turn : BaySeatView Engine
  pub calls : CallSeatView J

-- the domain's callbacks
abbrev pub callbacks_of : DomainView → CallsView
callbacks_of d = record { domain = d.domain; tallies = d.tallies; processors = d.processors }

-- an engine of this domain, of as many processors and with its limit of grace periods
abbrev pub IsEngineOf : DomainView → Engine → Type 0
IsEngineOf d e = (e.seat.domain ≡ d.domain) × (e.seat.processors ≡ d.processors) × (e.seat.periods ≡ d.periods)

module _ {J : Type 0} where
  -- the processor is of this domain, each of its seats is the one of its number there, and it does not have the engine. The engine that lay in the place first is one of this domain
  pub record IsOf (d : DomainView) (c : CpuView J) : Type 0 where
    pub domain : c.cpu.domain ≡ d.domain
    pub bay : c.turn.bay ≡ d.bay
    pub home : c.turn.domain ≡ d.domain
    pub first : MatchOption c.turn.first ⊥ (IsEngineOf d)
    pub free : holds c.turn ≡ false
    pub tree : c.needs.domain ≡ d.tree
    pub asks : c.needs.holder ≡ Processor c.cpu.processor
    pub many : c.cpu.processors ≡ d.processors
    pub fits : FitsIn (callbacks_of d) c.cpu c.calls
    pub number : c.turn.number ≡ c.cpu.processor
    pub seats : c.turn.seats ≡ d.processors
    pub words : c.calls.processors ≡ d.processors

  -- and of whichever domain it was, it still is
  abbrev pub Stays : CpuView J → CpuView J → Type 0
  Stays c c' = (d : DomainView) → IsOf d c → IsOf d c'

  -- the same processor, with its seats at the same tables
  pub record IsSameProcessor (c c' : CpuView J) : Type 0 where
    pub cpu : IsSameCpu c.cpu c'.cpu
    pub needs : IsSameSeat c.needs c'.needs
    pub turn : c'.turn ≡ record c.turn { seen = c'.turn.seen }
    pub calls : calls.IsSameSeat c.calls c'.calls

  -- nothing but its seat at the domain's words may have changed
  abbrev pub with_cpu : sections.CpuView → CpuView J → CpuView J
  with_cpu cpu c = record c { cpu = cpu }

  -- nothing but its seat at the tally words may have changed
  abbrev pub with_calls : CallSeatView J → CpuView J → CpuView J
  with_calls calls c = record c { calls = calls }

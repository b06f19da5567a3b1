-- How far somebody has seen, as a value, and the calls that go on from there.
use Rattle.std.specs.Prelude.{◌≡◌, ℕ, ◌+◌, ◌*◌, ◌^◌, ◌≤◌, true, List}
use Rattle.atomic_table.specs.Seated.{TableId}
use Rattle.atomic_table.specs.Table.{Step as TableStep}
use Rattle.sseq.specs.Numbers.{periods_ended, cookie_at}
use Rattle.onedom.specs.Histories.{IsBeginning}
use Rattle.onedom.specs.declared.event.Maker.TheVariants.{Processor}
use Rattle.onedom.specs.declared.event.Event.{Event}
use Rattle.onedom.specs.declared.event.Event.TheVariants.{Note, Ask}
use Rattle.sections.specs.Slots.{Slot}
use Rattle.sections.specs.declared.view.Role.TheVariants.{Cpu}
use Rattle.sections.specs.Words.{number_word}
use Rattle.sections.specs.Plays.{Adds, Sat, FindsNumber}
use Rattle.sections.specs.Views.{CpuView, CookieView}
use Rattle.sections.specs.Calls.{AddsEvent}

-- `domain` is the table of the domain, `seen` its history as far as somebody has seen it, and `changes` how often the engine had changed the number and the index word by then
pub record SightView : Type 0 where
  pub domain : TableId
  pub seen : List Event
  pub changes : ℕ

-- as far as the processor has seen
abbrev pub sight_of : CpuView → SightView
sight_of c = record { domain = c.domain; seen = c.seen; changes = c.changes }

-- one load found the number, and the cookie of it was given, behind all that the processor and the sight had seen. The sight goes as far then
pub record GivesCookieBehind (s : SightView) (c d : CpuView) (cookie : CookieView) (s' : SightView) : Type 0 where
  pub number : ℕ
  pub adds : AddsEvent s.seen s.changes (Note (cookie_at number) (Processor c.processor)) c d
  pub current : number ≡ number_word d.changes
  pub since : number_word c.changes ≤ number
  pub small : number + 4 ≤ 2 ^ 61
  pub cookie_is : cookie ≡ record { domain = c.domain; number = cookie_at number; seen = d.seen; changes = d.changes }
  pub sight_is : s' ≡ sight_of d

-- one load found the number, behind all that the processor and the sight had seen, and whoever asks is told that as many periods have ended. The sight goes as far then
pub record AsksHowFar (number : ℕ) (s : SightView) (c d : CpuView) (s' : SightView) : Type 0 where
  pub adds : AddsEvent s.seen s.changes (Ask (4 * periods_ended number) true (Processor c.processor)) c d
  pub current : number ≡ number_word d.changes
  pub since : number_word c.changes ≤ number
  pub small : number + 4 ≤ 2 ^ 61
  pub sight_is : s' ≡ sight_of d

-- the same, behind all that a second sight had seen too
pub record AsksHowFarBehind (number : ℕ) (given s : SightView) (c d : CpuView) (s' : SightView) : Type 0 where
  pub asks : AsksHowFar number s c d s'
  pub covers : IsBeginning given.seen asks.adds.before
  pub not_before : given.changes ≤ d.changes

-- load of the number: somebody asks how many periods have ended
abbrev pub asked_how_far : TableStep Slot → Sat → ℕ → Sat → Type 0
asked_how_far st m n m' = (m'.1 ≡ m.1) × (m'.0.right ≡ m.0.right) × FindsNumber n m'.0 × ((p : ℕ) → m.0.role ≡ Cpu p → Adds m.0 (Ask (4 * periods_ended n) true (Processor p)) m'.0)

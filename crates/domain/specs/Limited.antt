-- Waiting up to a limit of time: what was done where the time was over.
use Rattle.std.specs.Prelude.{◌≡◌, ℕ, ◌≤◌, List, ◌∷◌, ◌++◌, All, false, length}
use Rattle.onedom.specs.declared.event.Event.{Event}
use Rattle.onedom.specs.declared.event.Event.TheVariants.{Note, Ask}
use Rattle.onedom.specs.declared.event.Maker.TheVariants.{Processor}
use Rattle.sections.specs.Views as sections
use Rattle.calls.specs.Views.{CallSeatView, TicketView}
use Rattle.calls.specs.Barriers.{Loads, Polls}
use Rattle.domain.specs.declared.domain.waiting.limited.WaitRefusal.{WaitRefusal}
use Rattle.domain.specs.declared.domain.waiting.limited.WaitRefusal.TheVariants as refused
use Rattle.domain.specs.Views.{CpuView}
use Rattle.domain.specs.Waiting.{HasNoted, WaitsUntil, WaitsInVain}
use Rattle.domain.specs.Barriers.{rows_of_loads, PollsThrough}

module _ {J : Type 0} where
  -- the cookie was given in the call and its number asked for, and it was polled once or more, each time in vain and after a turn of the engine. It is one of the processor's domain, so it may be polled on
  pub record TimesOut (cookie : sections.CookieView) (c c' : CpuView J) : Type 0 where
    pub domain : cookie.domain ≡ c.cpu.domain
    pub waits : WaitsUntil (λ x y. y ≡ x) cookie c c'
    pub gives : HasNoted c cookie.number cookie.seen
    pub vain : List Event
    pub some : 1 ≤ length vain
    pub all_vain : All (λ e. e ≡ Ask cookie.number false (Processor c.cpu.processor)) vain
    pub one_each : length vain ≡ length waits.rounds
    pub mine : c'.cpu.mine ≡ c.cpu.mine ++ Note cookie.number (Processor c.cpu.processor) ∷ vain

  -- why the wait ended before its grace period did
  abbrev pub IsCutShort : WaitRefusal → CpuView J → CpuView J → Type 0
  IsCutShort (refused.TimedOut cookie) c c' = TimesOut cookie c c'
  IsCutShort refused.Exhausted c c' = WaitsInVain c c'

  -- one poll after another was in vain, the last one too. The seat made the loads of these polls, and no other deed
  pub record PollsInVain (t : TicketView) (s s' : CallSeatView J) : Type 0 where
    pub vain : List (CallSeatView J)
    pub through : PollsThrough (λ m n. Polls t m false n) t vain s s'
    pub found : List (List ℕ)
    pub loads : Loads (rows_of_loads found) s s'

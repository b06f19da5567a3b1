-- What asking for a grace period and waiting for it is.
use Rattle.std.specs.Prelude.{◌≡◌, ℕ, List, [], ◌∷◌, ◌++◌, All, Bool, true, false, length, Option, MatchOption}
use Rattle.onedom.specs.declared.event.Event.{Event}
use Rattle.onedom.specs.declared.event.Event.TheVariants.{Note, Ask}
use Rattle.onedom.specs.declared.event.Maker.TheVariants.{Processor}
use Rattle.onedom.specs.Histories.{IsBeginning}
use Rattle.sections.specs.Views as sections
use Rattle.sections.specs.Words.{open_readings}
use Rattle.sections.specs.Calls as calls
use Rattle.sections.specs.Calls.{GivesCookie, AllClosed}
use Rattle.scan.specs.declared.progress.Progress.{Progress}
use Rattle.funnel.specs.declared.seat.Level.{Level}
use Rattle.funnel.specs.Calls.{LoadsRoot}
use Rattle.funnel.specs.Calls as tree
use Rattle.domain.specs.Views.{CpuView, with_cpu}
use Rattle.domain.specs.Turns.{CarriesOnIn, FindsBusyIn, FindsExhaustedIn}

module _ {J : Type 0} where
  -- a cookie was given, and then just its number asked for
  pub record StartsPoll (c : CpuView J) (cookie : sections.CookieView) (c' : CpuView J) : Type 0 where
    pub gives : GivesCookie c.cpu c'.cpu cookie
    pub level : Level
    pub asks : tree.Asks cookie.number c.needs level c'.needs
    pub root : tree.IsAskedFor cookie.number level c'.needs
    pub turn : c'.turn ≡ c.turn
    pub calls : c'.calls ≡ c.calls

  -- one load found the root
  pub record LoadsNeed (c : CpuView J) (need : ℕ) (c' : CpuView J) : Type 0 where
    pub load : LoadsRoot c.needs need c'.needs
    pub rest : c' ≡ record c { needs = c'.needs }

  -- no reading is open on the processor: it would wait for itself
  abbrev pub HasNoneOpen : CpuView J → Type 0
  HasNoneOpen c = length (open_readings c.cpu.mine) ≡ 0

  -- in the call a cookie was given, of this number, at which the processor had seen this history
  pub record HasNoted (c : CpuView J) (number : ℕ) (noted : List Event) : Type 0 where
    pub before : List Event
    pub since : IsBeginning c.cpu.seen before
    pub whole : noted ≡ before ++ Note number (Processor c.cpu.processor) ∷ []

  -- Rounds

  -- the cookie was polled, with this answer
  pub record Polls (answer : Bool) (cookie : sections.CookieView) (c c' : CpuView J) : Type 0 where
    pub asks : calls.Asks cookie.seen cookie.changes cookie.number answer c.cpu c'.cpu
    pub rest : c' ≡ with_cpu c'.cpu c

  -- a turn: the engine was taken once, and went on until it had ended a period, waited for a section, or had nothing to do; or another call had it, and there is no answer
  abbrev pub Turns : Option Progress → CpuView J → CpuView J → Type 0
  Turns progress c c' = MatchOption progress (FindsBusyIn c c') (λ a. CarriesOnIn c a c')

  -- a turn was tried, and then the cookie was polled, with this answer
  pub record TurnsAndPolls (answer : Bool) (cookie : sections.CookieView) (c c' : CpuView J) : Type 0 where
    pub progress : Option Progress
    pub turned : CpuView J
    pub turns : Turns progress c turned
    pub polls : Polls answer cookie turned c'

  -- rounds of a turn and a poll in vain, to one of these after another, and then what ends the row
  abbrev pub RoundsThrough : (CpuView J → CpuView J → Type 0) → sections.CookieView → List (CpuView J) → CpuView J → CpuView J → Type 0
  RoundsThrough ends cookie [] c c' = ends c c'
  RoundsThrough ends cookie (d ∷ ds) c c' = TurnsAndPolls false cookie c d × RoundsThrough ends cookie ds d c'

  -- the cookie was given and its number asked for, and nothing else was asked for. Behind that there was a row of rounds. The seat at the tally words stayed as it was
  pub record WaitsUntil (ends : CpuView J → CpuView J → Type 0) (cookie : sections.CookieView) (c c' : CpuView J) : Type 0 where
    pub asked : CpuView J
    pub starts : StartsPoll c cookie asked
    pub rounds : List (CpuView J)
    pub through : RoundsThrough ends cookie rounds asked c'
    pub no_more : c'.needs.mine ≡ asked.needs.mine
    pub calls : c'.calls ≡ c.calls

  -- The two answers

  -- the last poll answered that the cookie is done: no section that was open when it was given is open now. The processor's own events are the cookie's and those of the polls
  pub record Synchronizes (c c' : CpuView J) : Type 0 where
    pub cookie : sections.CookieView
    pub waits : WaitsUntil (TurnsAndPolls true cookie) cookie c c'
    pub gives : HasNoted c cookie.number cookie.seen
    pub last : List Event
    pub behind : IsBeginning cookie.seen last
    pub asks : c'.cpu.seen ≡ last ++ Ask cookie.number true (Processor c.cpu.processor) ∷ []
    pub vain : List Event
    pub all_vain : All (λ e. e ≡ Ask cookie.number false (Processor c.cpu.processor)) vain
    pub one_each : length vain ≡ length waits.rounds
    pub mine : c'.cpu.mine ≡ c.cpu.mine ++ Note cookie.number (Processor c.cpu.processor) ∷ (vain ++ Ask cookie.number true (Processor c.cpu.processor) ∷ [])
    pub closed : AllClosed cookie.seen c'.cpu.seen

  -- in the last turn the engine found that no more periods may start; the polls before it were in vain
  pub record WaitsInVain (c c' : CpuView J) : Type 0 where
    pub cookie : sections.CookieView
    pub waits : WaitsUntil FindsExhaustedIn cookie c c'
    pub gives : HasNoted c cookie.number cookie.seen
    pub vain : List Event
    pub all_vain : All (λ e. e ≡ Ask cookie.number false (Processor c.cpu.processor)) vain
    pub one_each : length vain ≡ length waits.rounds
    pub mine : c'.cpu.mine ≡ c.cpu.mine ++ Note cookie.number (Processor c.cpu.processor) ∷ vain

  -- in the call a moment was noted, of the history that the processor has seen now, and no section that was open then is open now
  pub record WaitedFor (c c' : CpuView J) : Type 0 where
    pub number : ℕ
    pub moment : List Event
    pub noted : HasNoted c number moment
    pub upto : IsBeginning moment c'.cpu.seen
    pub closed : AllClosed moment c'.cpu.seen

-- What a call does that drives the engine: it takes the engine from where it lies, has it work, and puts it back.
use Rattle.std.specs.Prelude.{◌≡◌, ℕ, ◌+◌, ◌<◌, ◌⊎◌, false, List}
use Rattle.onedom.specs.declared.event.Event.{Event}
use Rattle.onedom.specs.Histories.{IsBeginning, IsRunning}
use Rattle.sections.specs.Words.{Reaches}
use Rattle.sections.specs.EngineCalls.{TiesEngine}
use Rattle.scan.specs.declared.progress.Progress.{Progress}
use Rattle.scan.specs.declared.progress.Progress.TheVariants as answer
use Rattle.scan.specs.declared.progress.NotStarted as scan
use Rattle.scan.specs.declared.progress.NotStarted.TheVariants as refused
use Rattle.scan.specs.declared.refusals.AdvanceRefusal.{AdvanceRefusal}
use Rattle.scan.specs.declared.refusals.AdvanceRefusal.TheVariants as advance
use Rattle.scan.specs.declared.refusals.StartRefusal.{StartRefusal}
use Rattle.scan.specs.declared.refusals.StartRefusal.TheVariants as start
use Rattle.scan.specs.Standings.{Standing, number_at_rest, leads_on, steps_for, IsAnswered, Starts, IsOutOfPeriods}
use Rattle.scan.specs.Progress.{NeedsLoaded, StepsTo, AdvancesTo, CarriesOn, FindsExhausted, StartsTo, IsNoStart, known_by, at_work, rested, with_seat}
use Rattle.scan.specs.Stations.{IsOfStation, TakesTurn, FindsBusy}
use Rattle.funnel.specs.Calls.{LoadsRoot}
use Rattle.domain.specs.Views.{Engine, Working, DomainView, CpuView}

-- an answer is due where less than all of its steps was half done, and then nothing is; a step makes one more
abbrev pub IsDue : ℕ → Progress → ℕ → ℕ → Type 0
IsDue processors answer.Step before after = after ≡ before + 1
IsDue processors a before after = (before < steps_for processors a) × (after ≡ 0)

-- how a turn ends in which a period started or flipped
abbrev pub EndsOrWaits : Progress → Type 0
EndsOrWaits (answer.Ended n) = Unit {0}
EndsOrWaits (answer.Waiting i) = Unit {0}
EndsOrWaits a = ⊥

module _ {J : Type 0} where
  -- the engine was found as `found`, worked with the processor's seat at the tree, came to see one history with the processor, and was left as `left`. The processor's seat at the tally words stayed as it was
  pub record Lends (work : Working → Working → Type 0) (c c' : CpuView J) : Type 0 where
    pub found : Engine
    pub worked : Working
    pub left : Engine
    pub domain : found.seat.domain ≡ c.cpu.domain
    pub size : IsOfStation c.turn found
    pub works : work (at_work c.needs found) worked
    pub needs : c'.needs ≡ worked.needs
    pub ties : TiesEngine worked.seat c.cpu left.seat c'.cpu
    pub rest : left ≡ with_seat left.seat (rested worked)
    pub turn : TakesTurn c.turn found left c'.turn
    pub calls : c'.calls ≡ c.calls

  -- another call had the engine: one swap found nothing where it lies, and nothing else was done
  pub record FindsBusyIn (c c' : CpuView J) : Type 0 where
    pub busy : FindsBusy c.turn c'.turn
    pub rest : c' ≡ record c { turn = c'.turn }

  -- the engine made one step
  abbrev pub StepsIn : CpuView J → Progress → CpuView J → Type 0
  StepsIn c a c' = Lends (λ v w. StepsTo LoadsRoot v a w) c c'

  -- it made steps until there was an answer
  abbrev pub AdvancesIn : CpuView J → Progress → CpuView J → Type 0
  AdvancesIn c a c' = Lends (λ v w. AdvancesTo LoadsRoot v a w) c c'

  -- it went on from answer to answer until it had ended a period, waited for a section, or had nothing to do
  abbrev pub CarriesOnIn : CpuView J → Progress → CpuView J → Type 0
  CarriesOnIn c a c' = Lends (λ v w. CarriesOn LoadsRoot v a w) c c'

  -- it found that a period is asked for, and that as many have ended as there may be
  abbrev pub FindsExhaustedIn : CpuView J → CpuView J → Type 0
  FindsExhaustedIn c c' = Lends (λ v w. FindsExhausted LoadsRoot v w) c c'

  abbrev pub IsRefused : CpuView J → AdvanceRefusal → CpuView J → Type 0
  IsRefused c advance.Busy c' = FindsBusyIn c c'
  IsRefused c advance.Exhausted c' = FindsExhaustedIn c c'

  -- a period started, asked for or not
  abbrev pub StartsIn : CpuView J → ℕ → CpuView J → Type 0
  StartsIn c n c' = Lends (λ v w. StartsTo (rested v) n (rested w) × (w.needs ≡ v.needs)) c c'

  -- the engine started none, and did nothing
  abbrev pub StartsNone : CpuView J → scan.NotStarted → CpuView J → Type 0
  StartsNone c refusal c' = Lends (λ v w. IsNoStart (rested v) refusal × (w ≡ v)) c c'

  abbrev pub IsNotStarted : CpuView J → StartRefusal → CpuView J → Type 0
  IsNotStarted c start.Busy c' = FindsBusyIn c c'
  IsNotStarted c start.Running c' = StartsNone c refused.Running c'
  IsNotStarted c start.Exhausted c' = StartsNone c refused.Exhausted c'

  -- What is then known of the domain

  -- The turn of the call found the engine as `found`, and the domain had come so far once it had worked.
  -- The processor has then seen that history, and just as many changes of the number and the index word: none came since, up to the end of the call, when the processor has seen all that it had seen before. What is half done lies there
  pub record HasCome (d : DomainView) (found : Engine) (at : Standing) (c c' : CpuView J) : Type 0 where
    pub left : Engine
    pub turn : TakesTurn c.turn found left c'.turn
    pub processors : at.processors ≡ d.processors
    pub periods : at.periods ≡ d.periods
    pub half : at.so_far ≡ left.so_far
    pub since : IsBeginning found.seat.seen at.history
    pub upto : IsBeginning at.history c'.cpu.seen
    pub changes : at.changes ≡ c'.cpu.changes
    pub agree : Reaches c'.cpu.changes c'.cpu.seen
    pub covers : IsBeginning c.cpu.seen c'.cpu.seen

  -- it came there from where the turn found it, on the way to this answer, behind these events of others. The need was loaded in the call at the processor's own seat, at rest where nothing was half done; else it is the one that was found before
  pub record SaysOf (d : DomainView) (a : Progress) (c c' : CpuView J) : Type 0 where
    pub found : Engine
    pub at : Standing
    pub here : HasCome d found at c c'
    pub others : List Event
    pub needs : NeedsLoaded LoadsRoot (at_work c.needs found) (at_work c'.needs found)
    pub due : IsDue d.processors a found.so_far at.so_far
    pub answered : IsAnswered others needs.need a (known_by found) at

  -- the same of the last answer of a turn, behind a start or a flip of that turn: the period that ran then with nothing half done has ended, or is held up
  pub record SaysBehind (d : DomainView) (a : Progress) (c c' : CpuView J) : Type 0 where
    pub found : Engine
    pub before : Standing
    pub at : Standing
    pub here : HasCome d found at c c'
    pub since : IsBeginning found.seat.seen before.history
    pub runs : IsRunning before.history
    pub whole : before.so_far ≡ 0
    pub others : List Event
    pub need : ℕ
    pub last : EndsOrWaits a
    pub answered : IsAnswered others need a before at

  -- what the last answer of a turn says: it is the only one, or it comes behind a start or a flip
  abbrev pub SaysAtLast : DomainView → Progress → CpuView J → CpuView J → Type 0
  SaysAtLast d a c c' = ((leads_on a ≡ false) × SaysOf d a c c') ⊎ SaysBehind d a c c'

  -- it came there by the start of a grace period, asked for or not, behind these events of others, and n is the number then
  pub record HasStarted (d : DomainView) (n : ℕ) (c c' : CpuView J) : Type 0 where
    pub found : Engine
    pub at : Standing
    pub here : HasCome d found at c c'
    pub others : List Event
    pub starts : Starts others n (known_by found) at

  -- the turn found that a grace period runs
  pub record RanThen (d : DomainView) (c c' : CpuView J) : Type 0 where
    pub found : Engine
    pub here : HasCome d found (known_by found) c c'
    pub runs : IsRunning found.seat.seen

  -- the turn found that none runs, and that as many have ended as may in this domain
  pub record IsOut (d : DomainView) (c c' : CpuView J) : Type 0 where
    pub found : Engine
    pub here : HasCome d found (known_by found) c c'
    pub out : IsOutOfPeriods (known_by found)

  -- the same where one more is asked for, as the call's load of the need found
  pub record IsOutWhenAsked (d : DomainView) (c c' : CpuView J) : Type 0 where
    pub out : IsOut d c c'
    pub need : ℕ
    pub load : LoadsRoot c.needs need c'.needs
    pub asked : number_at_rest out.found.seat.seen < need

  -- why there is no answer
  abbrev pub SaysWhy : DomainView → AdvanceRefusal → CpuView J → CpuView J → Type 0
  SaysWhy d advance.Busy c c' = FindsBusyIn c c'
  SaysWhy d advance.Exhausted c c' = IsOutWhenAsked d c c'

  -- why no period started
  abbrev pub SaysWhyNone : DomainView → StartRefusal → CpuView J → CpuView J → Type 0
  SaysWhyNone d start.Busy c c' = FindsBusyIn c c'
  SaysWhyNone d start.Running c c' = RanThen d c c'
  SaysWhyNone d start.Exhausted c c' = IsOut d c c'

-- The one shape of what a processor's calls do: what each adds at the processor's four seats, whatever others did meanwhile.
use Rattle.std.specs.Prelude.{◌≡◌, ◌≢◌, ℕ, zero, suc, ◌*◌, ◌≤◌, ◌⊎◌, max, Option, Some, None, Bool, true, List, [], ◌∷◌, ◌++◌}
use Rattle.sseq.specs.declared.index.Index.{Index}
use Rattle.sseq.specs.Numbers.{periods_ended}
use Rattle.onedom.specs.declared.event.Maker.TheVariants.{Processor, Engine}
use Rattle.onedom.specs.declared.event.Event.{Event}
use Rattle.onedom.specs.declared.event.Event.TheVariants.{Begin, End, Note, Ask, Find, Put}
use Rattle.onedom.specs.Histories.{made_by, starts_in, ended_in, IsBeginning}
use Rattle.sections.specs.Words.{number_word}
use Rattle.sections.specs.Views as sections
use Rattle.sections.specs.Views.{FoundView}
use Rattle.sections.specs.Calls.{IsSameCpu}
use Rattle.funnel.specs.declared.view.Holder.{Holder}
use Rattle.funnel.specs.declared.view.Holder.TheVariants as holder
use Rattle.funnel.specs.declared.view.Raise.{Raise}
use Rattle.funnel.specs.Histories as tree
use Rattle.funnel.specs.Histories.{greatest, raised_by}
use Rattle.funnel.specs.Views.{FunnelView}
use Rattle.funnel.specs.Calls.{IsSameSeat}
use Rattle.calls.specs.declared.view.Deed.{Deed}
use Rattle.calls.specs.declared.refusals.CallRefusal.{CallRefusal}
use Rattle.calls.specs.declared.refusals.CallRefusal.TheVariants as calling
use Rattle.calls.specs.Lines.{Line, line_from}
use Rattle.calls.specs.Tallies as tallies
use Rattle.calls.specs.Tallies.{queued_in, finished_in, deeds_of}
use Rattle.calls.specs.Views.{CallSeatView}
use Rattle.calls.specs.Calls as calls
use Rattle.domain.specs.Views.{CpuView}

-- Acts

-- what a call of a processor adds: its events in the history, the number that it asked for (0 if none), how many jobs it queued on the processor, and how many it finished, of the processor `owner`. `list` is the processor whose list may have changed, if one's may: no other list has
pub record Act : Type 0 where
  pub events : List Event
  pub asked : ℕ
  pub queued : ℕ
  pub finished : ℕ
  pub owner : ℕ
  pub list : Option ℕ

-- nothing: it loads at most
abbrev pub nothing : Act
nothing = record { events = []; asked = 0; queued = 0; finished = 0; owner = 0; list = None }

-- one event, and nothing else
abbrev pub makes : Event → Act
makes e = record { events = e ∷ []; asked = 0; queued = 0; finished = 0; owner = 0; list = None }

-- What each call adds, on processor p

abbrev pub loads : ℕ → Act
loads p = nothing

abbrev pub begins : ℕ → Index → ℕ → Act
begins section index p = makes (Begin section p index (Processor p))

abbrev pub ends : ℕ → ℕ → Act
ends section p = makes (End section p (Processor p))

-- the section finds this version in the cell
abbrev pub finds : ℕ → ℕ → FoundView → ℕ → Act
finds section cell f p = makes (Find section cell f.slot f.version (Processor p))

-- the slot is put as this version of the cell
abbrev pub puts : ℕ → ℕ → ℕ → ℕ → Act
puts cell slot version p = makes (Put cell slot version (Processor p))

-- the processor is given the cookie of this number
abbrev pub notes : ℕ → ℕ → Act
notes cookie p = makes (Note cookie (Processor p))

-- it is told whether the cookie of this number is done
abbrev pub asks_whether : ℕ → Bool → ℕ → Act
asks_whether cookie done p = makes (Ask cookie done (Processor p))

-- it is told how far the grace periods have come, where the engine has made so many changes
abbrev pub asks_how_far : ℕ → ℕ → Act
asks_how_far changes p = asks_whether (4 * periods_ended (number_word changes)) true p

-- the same, and perhaps something is taken out of the list of a processor
abbrev pub takes : ℕ → ℕ → ℕ → Act
takes changes owner p = record (asks_how_far changes p) { list = Some owner }

-- whose list is another where so many jobs are queued on the processor
abbrev pub list_of : ℕ → ℕ → Option ℕ
list_of zero p = None
list_of (suc n) p = Some p

-- it is given the cookie of this number, a grace period up to it is asked for, and so many jobs are queued with it
abbrev pub asks_for : ℕ → ℕ → ℕ → Act
asks_for cookie queued p = record { events = Note cookie (Processor p) ∷ []; asked = cookie; queued = queued; finished = 0; owner = 0; list = list_of queued p }

-- so many jobs are finished, of this processor
abbrev pub finishes : ℕ → ℕ → ℕ → Act
finishes owner count p = record { events = []; asked = 0; queued = 0; finished = count; owner = owner; list = Some owner }

-- A call that acts

-- the seat at the domain's words made these events, and no others. Events of others came before, and perhaps behind
pub record MakesEvents (act : List Event) (c c' : sections.CpuView) : Type 0 where
  pub same : IsSameCpu c c'
  pub others : List Event
  pub since : IsBeginning (c.seen ++ (others ++ act)) c'.seen
  pub mine : c'.mine ≡ c.mine ++ act
  pub later : c.changes ≤ c'.changes

-- the seat at the tree has seen as much, or more, and raised these itself
pub record GoesOn (raised : List Raise) (e f : FunnelView) : Type 0 where
  pub same : IsSameSeat e f
  pub since : tree.IsBeginning e.seen f.seen
  pub mine : f.mine ≡ e.mine ++ raised

module _ {J : Type 0} where
  -- the seat at the tally words has seen as much, or more, and did these itself
  pub record Adds (act : List (Deed J)) (s t : CallSeatView J) : Type 0 where
    pub same : calls.IsSameSeat s t
    pub since : tallies.IsBeginning s.seen t.seen
    pub own : deeds_of s.processor t.seen ≡ deeds_of s.processor s.seen ++ act

-- these events are the processor's, and no period starts or ends with them
pub record AreOf (p : ℕ) (act : List Event) : Type 0 where
  pub own : made_by (Processor p) act ≡ act
  pub others : (k : ℕ) → k ≢ p → made_by (Processor k) act ≡ []
  pub engine : made_by Engine act ≡ []
  pub quiet : (history : List Event) → (starts_in (history ++ act) ≡ starts_in history) × (ended_in (history ++ act) ≡ ended_in history)

-- these raises are those of the seat's holder, up to the number that was asked for, whose cookie was given in the act
pub record AskFor (p : ℕ) (by : Holder) (a : Act) (raised : List Raise) : Type 0 where
  pub own : (q : ℕ) → by ≡ holder.Processor q → raised_by q raised ≡ raised
  pub others : (q : ℕ) → by ≢ holder.Processor q → raised_by q raised ≡ []
  pub greatest_is : (before : List Raise) → greatest (before ++ raised) ≡ max (greatest before) a.asked
  pub cookie : (a.asked ≡ 0) ⊎ (a.events ≡ Note a.asked (Processor p) ∷ [])

module _ {J : Type 0} where
  -- these deeds queue so many jobs on the processor, finish so many, all of one owner, and change no other list
  pub record Count (p : ℕ) (a : Act) (deeds : List (Deed J)) : Type 0 where
    pub queued : queued_in p deeds ≡ a.queued
    pub finished : finished_in a.owner deeds ≡ a.finished
    pub others : (q : ℕ) → q ≢ a.owner → finished_in q deeds ≡ 0
    pub lists : (q : ℕ) → a.list ≢ Some q → (l : Line J) → line_from q l deeds ≡ l

  -- a call of processor p acts so, whatever others did meanwhile; the engine stayed where it lay
  pub record Acts (p : ℕ) (a : Act) (c c' : CpuView J) : Type 0 where
    pub events : MakesEvents a.events c.cpu c'.cpu
    pub are_of : AreOf p a.events
    pub raised : List Raise
    pub needs : GoesOn raised c.needs c'.needs
    pub ask_for : AskFor p c.needs.holder a raised
    pub deeds : List (Deed J)
    pub adds : Adds deeds c.calls c'.calls
    pub count : Count p a deeds
    pub turn : c'.turn ≡ c.turn

  -- what is said so of the processor's own number
  abbrev pub ActsAs : (ℕ → Act) → CpuView J → CpuView J → Type 0
  ActsAs what c c' = Acts c.cpu.processor (what c.cpu.processor) c c'

  -- a call that queues no job: nothing is done, or the processor was given a cookie
  abbrev pub QueuesNone : CallRefusal → CpuView J → CpuView J → Type 0
  QueuesNone calling.Exhausted c c' = ActsAs loads c c'
  QueuesNone calling.Memory c c' = (cookie : ℕ) × ActsAs (notes cookie) c c'

  -- a call that puts a version and then acts so
  pub record PutsAndThen (what : ℕ → Act) (cell slot version : ℕ) (c c' : CpuView J) : Type 0 where
    pub between : CpuView J
    pub put : ActsAs (puts cell slot version) c between
    pub next : ActsAs what between c'

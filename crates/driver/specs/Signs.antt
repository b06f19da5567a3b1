-- A sign that tells drivers to stop, and what is promised of it.
use Rattle.std.specs.Prelude.{◌≡◌, ℕ, List, ◌∷◌, Option, Some, None, ◌⊎◌, Bool}
use Rattle.atomic_table.specs.Seated.{TableId}
use Rattle.trail.specs.Views.{SightView}
use Rattle.calls.specs.declared.view.Deed.{Deed}
use Rattle.calls.specs.Views.{TicketView}
use Rattle.calls.specs.Barriers.{CoversAll, IsDone, AreFinished, Starts, Polls}
use Rattle.domain.specs.Views.{DomainView, CpuView, with_calls}
use Rattle.domain.specs.Barriers.{IsTicketOf}

-- which sign it is, and of which domain
pub record StopView : Type 0 where
  pub stop : TableId
  pub domain : DomainView

-- what a sign says: nothing, as long as it is not given; that it is given; or that it is, by a processor that left this ticket
abbrev pub Word : Type 0
Word = Option (Option TicketView)

-- a ticket that lies in a sign is of the sign's domain
abbrev pub IsWordOf : DomainView → Word → Type 0
IsWordOf d None = Unit {0}
IsWordOf d (Some None) = Unit {0}
IsWordOf d (Some (Some t)) = IsTicketOf d t

-- a sign that is given stays as it is
abbrev pub Stays : Word → Word → Type 0
Stays None next = Unit {0}
Stays (Some t) next = next ≡ Some t

-- at a moment of the sign, it said this
pub record Says (p : StopView) (word : Word) (told : SightView Word) : Type 0 where
  pub stop : told.lock ≡ p.stop
  pub before : List Word
  pub seen : told.seen ≡ word ∷ before

-- at a moment of the sign it was given
abbrev pub SaysGiven : StopView → SightView Word → Type 0
SaysGiven p told = (by : Option TicketView) × Says p (Some by) told

-- the sign was found given, and left as it was
pub record WasGiven (p : StopView) (told : SightView Word) : Type 0 where
  pub stop : told.lock ≡ p.stop
  pub by : Option TicketView
  pub before : List Word
  pub seen : told.seen ≡ Some by ∷ Some by ∷ before

module _ {J : Type 0} where
  -- the sign is given by the processor, whose ticket lies in it: it covers each job whose queueing the processor had seen
  pub record Gives (p : StopView) (c : CpuView J) (told : SightView Word) (c' : CpuView J) : Type 0 where
    pub ticket : TicketView
    pub says : Says p (Some (Some ticket)) told
    pub covers : CoversAll ticket p.domain.processors c.calls.seen
    pub starts : Starts c.calls ticket c'.calls

  -- the sign is given, and for one who has seen this, each job that the ticket in it covers was given out, and its batch is finished
  abbrev pub IsDoneBy : Word → List (Deed J) → Type 0
  IsDoneBy None seen = ⊥
  IsDoneBy (Some None) seen = Unit {0}
  IsDoneBy (Some (Some t)) seen = IsDone t seen × AreFinished t seen

  -- the same of what was seen of a sign
  pub record IsServed (p : StopView) (told : SightView Word) (seen : List (Deed J)) : Type 0 where
    pub word : Word
    pub says : Says p word told
    pub done : IsDoneBy word seen

  -- a ticket was polled, or nothing was done
  pub record Polled (c c' : CpuView J) : Type 0 where
    pub ticket : TicketView
    pub done : Bool
    pub polls : Polls ticket c.calls done c'.calls
    pub rest : c' ≡ with_calls c'.calls c

  abbrev pub MayPoll : CpuView J → CpuView J → Type 0
  MayPoll c c' = (c' ≡ c) ⊎ Polled c c'

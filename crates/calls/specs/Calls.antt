-- What the calls of a list, of a batch and of all callbacks do.
use Rattle.std.specs.Prelude.{◌≡◌, ℕ, ◌+◌, ◌<◌, ◌≤◌, true, List, [], ◌∷◌, ◌++◌, All, Option, Some, None, IsSome, MatchOption, length, slice_index_or, take, drop}
use Rattle.atomic_table.specs.Seated.{TableId}
use Rattle.onedom.specs.declared.event.Maker.{Maker}
use Rattle.onedom.specs.declared.event.Event.{Event}
use Rattle.onedom.specs.declared.event.Event.TheVariants.{Ask}
use Rattle.onedom.specs.Histories.{IsBeginning}
use Rattle.sections.specs.Views.{CpuView, CookieView}
use Rattle.sections.specs.Calls.{EndsWithNote}
use Rattle.sections.specs.Sights.{SightView, GivesCookieBehind, AsksHowFar}
use Rattle.segs.specs.MarkedList.{Done, marked, lens, numbers}
use Rattle.calls.specs.declared.view.Act.{Act}
use Rattle.calls.specs.declared.view.Act.TheVariants.{Queue, Take, Finish, LackRoom, LoadQueued}
use Rattle.calls.specs.declared.view.Deed.{Deed}
use Rattle.calls.specs.declared.entry.Entry.{Entry}
use Rattle.calls.specs.declared.refusals.CallRefusal.{CallRefusal}
use Rattle.calls.specs.declared.refusals.CallRefusal.TheVariants.{Exhausted, Memory}
use Rattle.calls.specs.declared.refusals.TakeRefusal.{TakeRefusal}
use Rattle.calls.specs.declared.refusals.TakeRefusal.TheVariants.{Invoking, Memory as NoMemory}
use Rattle.calls.specs.Lines.{some_out, line_in, gathered, with_moved, all_moved, readied, many_ready, calls_in}
use Rattle.calls.specs.Tallies.{deed, most_calls, queued_in, given_out, deeds_of, AreTakers, AreTrue, IsBeginning as IsBeginningOf}
use Rattle.calls.specs.Views.{CallSeatView, ListView, BatchView, CallsView, key_of, IsListIn, ReceiptView}
use Rattle.calls.specs.Meetings.{Covers}

-- Tallies

module _ {J : Type 0} where
  -- the same processor's seat at the same tally words
  abbrev pub IsSameSeat : CallSeatView J → CallSeatView J → Type 0
  IsSameSeat s t = (t.tallies ≡ s.tallies) × (t.processors ≡ s.processors) × (t.processor ≡ s.processor) × (t.domain ≡ s.domain)

  -- the seat did this, behind all that it had seen. Of its own it knew all before, and each load in what it has then seen found what was counted
  pub record Does (act : Act J) (s t : CallSeatView J) : Type 0 where
    pub same : IsSameSeat s t
    pub before : List (Deed J)
    pub since : IsBeginningOf s.seen before
    pub own : deeds_of s.processor before ≡ deeds_of s.processor s.seen
    pub seen : t.seen ≡ before ++ deed s.processor act ∷ []
    pub loads : AreTrue t.seen

  -- the seat loaded the queued word of this processor: its one new deed. What it has then seen is as true, and all batches there were finished by processors that are there
  pub record LooksAt (p : ℕ) (s t : CallSeatView J) : Type 0 where
    pub found : ℕ
    pub same : IsSameSeat s t
    pub since : IsBeginningOf s.seen t.seen
    pub own : deeds_of s.processor t.seen ≡ deeds_of s.processor s.seen ++ deed s.processor (LoadQueued p found) ∷ []
    pub loads : AreTrue t.seen
    pub takers : AreTakers s.processors t.seen

-- Grace periods

-- handed out after a grace period: it was queued at the end of the first history, from which the second goes on; and there somebody was told that its cookie is done
pub record IsHanded (cookie : ℕ) (seen now : List Event) : Type 0 where
  pub queued : EndsWithNote cookie seen
  pub reached : ℕ
  pub not_before : cookie ≤ reached
  pub before : List Event
  pub by : Maker
  pub since : IsBeginning seen before
  pub told : now ≡ before ++ Ask reached true by ∷ []

-- What a processor needs for the calls of a domain's callbacks

module _ {J : Type 0} where
  -- the processor and its seat, of the same domain
  pub record FitsIn (k : CallsView) (c : CpuView) (s : CallSeatView J) : Type 0 where
    pub domain : c.domain ≡ k.domain
    pub seat : s.domain ≡ k.domain
    pub tallies : s.tallies ≡ k.tallies
    pub cpu : c.processor ≡ s.processor
    pub there : s.processor < k.processors

  pub record MayTakeIn (k : CallsView) (c : CpuView) (s : CallSeatView J) (p : ℕ) : Type 0 where
    pub domain : c.domain ≡ k.domain
    pub tallies : s.tallies ≡ k.tallies
    pub there : p < k.processors

-- Queueing

module _ {J : Type 0} where
  abbrev pub IsSameList : ListView J → ListView J → Type 0
  IsSameList l m = key_of m ≡ key_of l

  -- the processor and its seat, of one domain
  pub record Fits (c : CpuView) (s : CallSeatView J) : Type 0 where
    pub domain : c.domain ≡ s.domain
    pub cpu : c.processor ≡ s.processor

  -- a cookie was given, behind all that the processor had seen, and 1 was added to the queued word for the job with it. The receipt has the cookie, and the number that the word held; and it notes what the seat has then seen, where its call is queued
  pub record Queues (c : CpuView) (s : CallSeatView J) (job : J) (r : ReceiptView J) (c' : CpuView) (s' : CallSeatView J) : Type 0 where
    pub behind : SightView
    pub sight : SightView
    pub note : GivesCookieBehind behind c c' r.cookie sight
    pub tally : Does (Queue (record { job = job; cookie = r.cookie })) s s'
    pub processor : r.processor ≡ s.processor
    pub counted : r.k ≡ queued_in s.processor s.seen
    pub noted : (r.tallies ≡ s'.tallies) × (r.seen ≡ s'.seen)
    pub known : r.k < queued_in r.processor r.seen

  -- why: as many were queued as may be, and no step was made; or fewer, and a cookie was noted
  abbrev pub IsCause : CpuView → CallSeatView J → CallRefusal → CpuView → Type 0
  IsCause c s Exhausted c' = (queued_in s.processor s.seen ≡ most_calls) × (c' ≡ c)
  IsCause c s Memory c' = (queued_in s.processor s.seen < most_calls) × ((cookie : CookieView) × (behind : SightView) × (sight : SightView) × GivesCookieBehind behind c c' cookie sight)

  -- the job comes back, and what the seat has seen is as before
  pub record Refuses (c : CpuView) (s : CallSeatView J) (job : J) (refused : J × CallRefusal) (c' : CpuView) (s' : CallSeatView J) : Type 0 where
    pub job_is : refused.0 ≡ job
    pub seat : s' ≡ s
    pub cause : IsCause c s refused.1 c'

  -- Moving

  -- so many of those that came in are moved: with those that were given out and those that wait, they are all that had been queued on the processor at a moment, which was not before the first history and not after the second
  pub record MovesAll (p moved : ℕ) (from seen : List (Deed J)) : Type 0 where
    pub few : moved ≤ length (line_in p seen).coming
    pub moment : List (Deed J)
    pub not_before : IsBeginningOf from moment
    pub not_after : IsBeginningOf moment seen
    pub all : given_out p seen + length (line_in p seen).waiting + moved ≡ queued_in p moment

  -- this one came last, and what had no number was assigned that of its cookie
  pub record MovesOne (l l' : ListView J) : Type 0 where
    pub entry : Entry J
    pub is : l' ≡ record l { moved = l.moved + 1; entries = with_moved entry l.entries; given = l'.given }

  -- these were moved, one after the other, to where more may be known to be queued
  pub record Came (l l' : ListView J) : Type 0 where
    pub came : List (Entry J)
    pub is : l' ≡ record l { counted = l'.counted; moved = l.moved + length came; entries = all_moved came l.entries; given = l'.given }

  -- the seat made one load, which is no deed
  pub record Gathers (l : ListView J) (s : CallSeatView J) (l' : ListView J) (s' : CallSeatView J) : Type 0 where
    pub came : Came l l'
    pub covers : Covers s s.seen s'

  -- the seat looked at the list, which is there, for one who has seen all that it then has, as it was and as it is
  pub record Looks (l : ListView J) (s : CallSeatView J) (l' : ListView J) (s' : CallSeatView J) : Type 0 where
    pub looks : LooksAt l.processor s s'
    pub list : l' ≡ record l { counted = l'.counted }
    pub was : IsListIn s'.seen l
    pub is : IsListIn s'.seen l'

  -- the seat noted how many of those that had come in were moved to the list, as it is
  pub record NotesLack (l : ListView J) (s s' : CallSeatView J) : Type 0 where
    pub does : Does (LackRoom l.processor l.moved) s s'
    pub is : IsListIn does.before l

  -- some were moved, and the seat noted that these were not all that had come in
  pub record LacksRoom (l : ListView J) (s : CallSeatView J) (l' : ListView J) (s' : CallSeatView J) : Type 0 where
    pub came : Came l l'
    pub does : Does (LackRoom l'.processor l'.moved) s s'
    pub is : IsListIn does.before l'
    pub short : l'.moved < length (line_in l'.processor does.before).coming

  -- Taking

  pub record MayTake (l : ListView J) (c : CpuView) (s : CallSeatView J) : Type 0 where
    pub domain : c.domain ≡ l.sight.domain
    pub tallies : s.tallies ≡ l.tallies

  -- the seat is at the list's tally words
  abbrev pub MayLook : ListView J → CallSeatView J → Type 0
  MayLook l s = s.tallies ≡ l.tallies

  abbrev pub IsInvoking : ListView J → Type 0
  IsInvoking l = IsSome l.out

  -- these were taken: nothing, and no batch is out; or a batch of all of them, and it is out
  abbrev pub IsTaken : ListView J → List (Entry J) → Option (BatchView J) → ListView J → Type 0
  IsTaken l [] None l' = l'.out ≡ None
  IsTaken l [] (Some b) l' = ⊥
  IsTaken l (e ∷ es) None l' = ⊥
  IsTaken l (e ∷ es) (Some b) l' = (b ≡ record { tallies = l.tallies; processor = l.processor; first = l.finished; count = length (e ∷ es); entries = e ∷ es }) × (l'.out ≡ Some (length (e ∷ es)))

  -- one load found the number. What waited for it is done, and what had no number got one; the first that are done go out, `max` of them, but no more than eight and no more than there are.
  -- The list was as its processor's deeds say, and is so behind it; and these are the very calls that were queued there, from the finished count on
  pub record GivesOut (max : ℕ) (l : ListView J) (c : CpuView) (s : CallSeatView J) (gone : List (Entry J)) (l' : ListView J) (c' : CpuView) (s' : CallSeatView J) : Type 0 where
    pub number : ℕ
    pub asks : AsksHowFar number l.sight c c' l'.sight
    pub same : IsSameList l l'
    pub finished : l'.finished ≡ l.finished
    pub out : l'.out ≡ some_out (length gone)
    pub tally : Does (Take l.processor number max l.moved) s s'
    pub was : IsListIn tally.before l
    pub is : IsListIn s'.seen l'
    pub in_order : readied number l.entries ≡ marked Done gone ++ l'.entries
    pub many : length gone ≡ many_ready max (readied number l.entries)
    pub calls : gone ≡ take (length gone) (drop l.finished (calls_in l.processor s'.seen))

  -- no batch was out, and these were given out of the list
  pub record TakesReady (max : ℕ) (l : ListView J) (c : CpuView) (s : CallSeatView J) (taken : Option (BatchView J)) (l' : ListView J) (c' : CpuView) (s' : CallSeatView J) : Type 0 where
    pub none_out : l.out ≡ None
    pub gone : List (Entry J)
    pub gives : GivesOut max l c s gone l' c' s'
    pub taken_is : IsTaken l gone taken l'

  -- the same, where all that had been queued at a moment of the call had been moved to the list
  pub record Takes (max : ℕ) (l : ListView J) (c : CpuView) (s : CallSeatView J) (taken : Option (BatchView J)) (l' : ListView J) (c' : CpuView) (s' : CallSeatView J) : Type 0 where
    pub none_out : l.out ≡ None
    pub gone : List (Entry J)
    pub gives : GivesOut max l c s gone l' c' s'
    pub all : MovesAll l.processor l.moved s.seen gives.tally.before
    pub taken_is : IsTaken l gone taken l'

  -- these were moved first
  pub record TakesAll (max : ℕ) (l : ListView J) (c : CpuView) (s : CallSeatView J) (taken : Option (BatchView J)) (l' : ListView J) (c' : CpuView) (s' : CallSeatView J) : Type 0 where
    pub gathered : ListView J
    pub came : Came l gathered
    pub takes : Takes max gathered c s taken l' c' s'

  -- a batch is out: the seat looked, and found it so
  pub record FindsOut (l : ListView J) (c : CpuView) (s : CallSeatView J) (l' : ListView J) (c' : CpuView) (s' : CallSeatView J) : Type 0 where
    pub invoking : IsInvoking l
    pub list : l' ≡ record l { counted = l'.counted }
    pub cpu : c' ≡ c
    pub looks : LooksAt l.processor s s'
    pub is : IsListIn s'.seen l

  -- why nothing was taken: a batch is out; or there was no memory for one that was to be moved
  abbrev pub TakesNothing : ListView J → CpuView → CallSeatView J → TakeRefusal → ListView J → CpuView → CallSeatView J → Type 0
  TakesNothing l c s Invoking l' c' s' = FindsOut l c s l' c' s'
  TakesNothing l c s NoMemory l' c' s' = (c' ≡ c) × LacksRoom l s l' s'

  -- the seat looked, and found the list so, after all that had been queued at a moment of the call were moved
  pub record FindsLens (l : ListView J) (s : CallSeatView J) (found : List ℕ × List ℕ) (l' : ListView J) (s' : CallSeatView J) : Type 0 where
    pub looks : LooksAt l.processor s s'
    pub same : IsSameList l l'
    pub is : IsListIn s'.seen l'
    pub all : MovesAll l.processor l'.moved s.seen s'.seen
    pub found_is : found ≡ (lens l'.entries, numbers l'.entries)

  abbrev pub AreHanded : List (Entry J) → List Event → Type 0
  AreHanded entries now = All (λ e. IsHanded e.cookie.number e.cookie.seen now) entries

  -- Batches

  -- the first entry leaves, and its job is given; nothing is given where none is left
  abbrev pub GivesNext : BatchView J → Option J → BatchView J → Type 0
  GivesNext b result b' = (b' ≡ record b { entries = b'.entries }) × MatchOption result ((b.entries ≡ []) × (b'.entries ≡ [])) (λ job. (e : Entry J) × (b.entries ≡ e ∷ b'.entries) × (job ≡ e.job))

  -- the number of the cookie of the first entry that is left
  abbrev pub next_cookie : List (Entry J) → Option ℕ
  next_cookie [] = None
  next_cookie (e ∷ es) = Some e.cookie.number

  -- the batch is empty, and is one of this list
  pub record MayFinish (l : ListView J) (s : CallSeatView J) (b : BatchView J) : Type 0 where
    pub empty : b.entries ≡ []
    pub tallies : s.tallies ≡ l.tallies
    pub of_tallies : b.tallies ≡ l.tallies
    pub processor : b.processor ≡ l.processor

  -- the batch was the one that was out, and its first number the finished count; that is larger by the batch's count now, and no batch is out
  pub record Finishes (l : ListView J) (s : CallSeatView J) (b : BatchView J) (l' : ListView J) (s' : CallSeatView J) : Type 0 where
    pub tally : Does (Finish b.processor b.count) s s'
    pub was : IsListIn tally.before l
    pub is : IsListIn s'.seen l'
    pub was_out : l.out ≡ Some b.count
    pub first : b.first ≡ l.finished
    pub list : l' ≡ record l { finished = l.finished + b.count; out = None }

  -- All callbacks of a domain

  -- a list of this processor
  abbrev pub IsListOf : CallsView → ℕ → ListView J → Type 0
  IsListOf k p l = key_of l ≡ record { domain = k.domain; tallies = k.tallies; processor = p }

  -- the job was queued on the processor, at these tally words
  pub record QueuesIn (k : CallsView) (c : CpuView) (s : CallSeatView J) (job : J) (r : ReceiptView J) (c' : CpuView) (s' : CallSeatView J) : Type 0 where
    pub tallies : r.tallies ≡ k.tallies
    pub queues : Queues c s job r c' s'

  pub record RefusesIn (k : CallsView) (c : CpuView) (s : CallSeatView J) (job : J) (refused : J × CallRefusal) (c' : CpuView) (s' : CallSeatView J) : Type 0 where
    pub refuses : Refuses c s job refused c' s'

  -- a batch of this processor
  abbrev pub IsOfProcessor : CallsView → ℕ → BatchView J → Type 0
  IsOfProcessor k p b = (b.tallies ≡ k.tallies) × (b.processor ≡ p)

  -- the list of the processor, once all that had been queued at a moment of the call were moved, and as the call left it
  pub record TakesIn (k : CallsView) (p max : ℕ) (c : CpuView) (s : CallSeatView J) (taken : Option (BatchView J)) (c' : CpuView) (s' : CallSeatView J) : Type 0 where
    pub list : ListView J
    pub of_calls : IsListOf k p list
    pub list' : ListView J
    pub takes : Takes max list c s taken list' c' s'

  -- a batch of this processor is out: the seat looked there, and found it so
  pub record InvokesIn (p : ℕ) (c : CpuView) (s : CallSeatView J) (c' : CpuView) (s' : CallSeatView J) : Type 0 where
    pub cpu : c' ≡ c
    pub looks : LooksAt p s s'
    pub out : IsSome (line_in p s'.seen).out

  -- the seat noted, with the processor's list in hand, that so many of the calls that had come in were moved to it, and not all
  pub record LacksRoomIn (p : ℕ) (s s' : CallSeatView J) : Type 0 where
    pub moved : ℕ
    pub does : Does (LackRoom p moved) s s'
    pub short : moved < length (line_in p does.before).coming

  -- why nothing was taken: a batch of this processor is out; or there was no memory for a call that was to be moved
  abbrev pub TakesNothingIn : ℕ → CpuView → CallSeatView J → TakeRefusal → CpuView → CallSeatView J → Type 0
  TakesNothingIn p c s Invoking c' s' = InvokesIn p c s c' s'
  TakesNothingIn p c s NoMemory c' s' = (c' ≡ c) × LacksRoomIn p s s'

  -- the seat looked at this processor's list, and found it so, after all that had been queued at a moment of the call were moved
  pub record FindsLensIn (p : ℕ) (s : CallSeatView J) (found : List ℕ × List ℕ) (s' : CallSeatView J) : Type 0 where
    pub looks : LooksAt p s s'
    pub moved : ℕ
    pub all : MovesAll p moved s.seen s'.seen
    pub found_is : found ≡ (lens (gathered moved (line_in p s'.seen)).waiting, numbers (gathered moved (line_in p s'.seen)).waiting)

  pub record MayFinishIn (k : CallsView) (s : CallSeatView J) (b : BatchView J) : Type 0 where
    pub empty : b.entries ≡ []
    pub tallies : s.tallies ≡ k.tallies
    pub of_tallies : b.tallies ≡ k.tallies
    pub there : b.processor < k.processors

  pub record FinishesIn (k : CallsView) (s : CallSeatView J) (b : BatchView J) (s' : CallSeatView J) : Type 0 where
    pub list : ListView J
    pub of_calls : IsListOf k b.processor list
    pub list' : ListView J
    pub finishes : Finishes list s b list' s'

-- New callbacks

module _ {J : Type 0} where
  -- a seat that has seen nothing
  abbrev pub new_seat : TableId → TableId → ℕ → ℕ → CallSeatView J
  new_seat domain tallies processors p = record { domain = domain; tallies = tallies; processors = processors; processor = p; seen = [] }

  -- the seats of all processors in order, which have seen nothing
  pub record AreNewSeats (domain tallies : TableId) (processors : ℕ) (seats : List (CallSeatView J)) : Type 0 where
    pub count : length seats ≡ processors
    pub each : (p : ℕ) (d : CallSeatView J) → p < length seats → slice_index_or seats p d ≡ new_seat domain tallies processors p

  -- callbacks of this domain, for all of its processors
  pub record AreMade (domain : TableId) (processors : ℕ) (k : CallsView) (seats : List (CallSeatView J)) : Type 0 where
    pub of_domain : k.domain ≡ domain
    pub many : k.processors ≡ processors
    pub seats_new : AreNewSeats k.domain k.tallies processors seats

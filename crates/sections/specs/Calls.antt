-- What the calls of a processor do.
use Rattle.std.specs.Prelude.{◌≡◌, ℕ, ◌<◌, ◌^◌, ◌+◌, ◌≤◌, ◌⊎◌, ◌↔◌, Bool, IsTrue, List, [], ◌∷◌, ◌++◌, All, Contains, None, true, false, length, slice_index_or}
use Rattle.atomic_table.specs.Seated.{TableId}
use Rattle.sseq.specs.declared.index.Index.{Index}
use Rattle.sseq.specs.Indexes.{low_bit}
use Rattle.sseq.specs.Numbers.{cookie_at, IsCookieNumber, IsDoneAt}
use Rattle.onedom.specs.declared.event.Maker.{Maker}
use Rattle.onedom.specs.declared.event.Maker.TheVariants.{Processor}
use Rattle.onedom.specs.declared.event.Event.{Event}
use Rattle.onedom.specs.declared.event.Event.TheVariants.{Begin, End, Note, Ask}
use Rattle.onedom.specs.Histories.{begins_of, IsOpen, IsLegal, made_by, IsBeginning}
use Rattle.sections.specs.declared.view.Step.{Step}
use Rattle.sections.specs.declared.view.Step.TheVariants.{LoadIndex, LoadUnlocks, LoadLocks}
use Rattle.sections.specs.declared.view.Text.{Text}
use Rattle.sections.specs.Words.{is_held, index_word, number_word, locks, unlocks, all_locks, Reaches}
use Rattle.sections.specs.Rule.{HasItsMaker}
use Rattle.sections.specs.Shelves.{IsStart, AreTextsOf}
use Rattle.sections.specs.Banks.{HaveOneVault}
use Rattle.sections.specs.Plays.{IsIndexWord}
use Rattle.sections.specs.Views.{CpuView, LookView, ReadingView, CookieView}

-- a legal history of a domain of so many processors, in which a maker has just these events and the engine has made so many changes. These are the texts of its Puts, and each cell has one vault
pub record IsHistoryOf (processors : ℕ) (maker : Maker) (mine seen : List Event) (changes : ℕ) (known : List Text) : Type 0 where
  pub legal : IsLegal seen
  pub makers : All (HasItsMaker processors) seen
  pub own : mine ≡ made_by maker seen
  pub reaches : Reaches changes seen
  pub texts : AreTextsOf known seen
  pub vaults : HaveOneVault known

abbrev pub IsSeenBy : CpuView → Type 0
IsSeenBy c = IsHistoryOf c.processors (Processor c.processor) c.mine c.seen c.changes c.texts

-- of this maker, whose own events these are, a holder with that history has seen a beginning of them
abbrev pub HasSeenOf : Maker → List Event → List Event → Type 0
HasSeenOf maker mine seen = IsBeginning (made_by maker seen) mine

-- the same processor of the same domain
abbrev pub IsSameCpu : CpuView → CpuView → Type 0
IsSameCpu c d = (d.domain ≡ c.domain) × (d.processors ≡ c.processors) × (d.sections ≡ c.sections) × (d.processor ≡ c.processor)

-- one load was made that is no event, and nothing was done; what is then seen goes on from what was seen before
pub record Loads (l : Step) (c d : CpuView) : Type 0 where
  pub same : IsSameCpu c d
  pub mine : d.mine ≡ c.mine
  pub steps : d.steps ≡ c.steps ++ l ∷ []
  pub since : IsBeginning c.seen d.seen
  pub later : c.changes ≤ d.changes
  pub texts : IsStart c.texts d.texts
  pub history : IsSeenBy d

-- the event was made, behind all that the processor had seen and all that another has, who has seen so many changes
pub record AddsEvent (other : List Event) (reached : ℕ) (e : Event) (c d : CpuView) : Type 0 where
  pub same : IsSameCpu c d
  pub before : List Event
  pub seen : d.seen ≡ before ++ e ∷ []
  pub since : IsBeginning c.seen before
  pub later : c.changes ≤ d.changes
  pub covers : IsBeginning other before
  pub not_before : reached ≤ d.changes
  pub mine : d.mine ≡ c.mine ++ e ∷ []
  pub steps : d.steps ≡ c.steps
  pub texts : IsStart c.texts d.texts
  pub history : IsSeenBy d

-- Sections

-- the look has the low bit of what one load of the index word found, which was the index word of what is then seen
pub record Looks (c d : CpuView) (look : LookView) : Type 0 where
  pub value : ℕ
  pub load : Loads (LoadIndex value) c d
  pub current : value ≡ index_word d.changes
  pub look_is : look ≡ record { domain = c.domain; index = low_bit value; seen = d.seen; changes = d.changes }

-- a section that never was begins, of this index. It may end on any processor, or here alone
pub record Begins (held : Bool) (c : CpuView) (look : LookView) (d : CpuView) (r : ReadingView) : Type 0 where
  pub section : ℕ
  pub room : locks c.processor look.index c.mine < c.sections
  pub fresh : begins_of section c.seen ≡ 0
  pub kind : is_held section ≡ held
  pub adds : AddsEvent look.seen look.changes (Begin section c.processor look.index (Processor c.processor)) c d
  pub reading : r ≡ record { domain = c.domain; section = section; processor = c.processor; index = look.index; seen = d.seen; changes = d.changes }

-- a look, and then a section of its index
pub record LooksAndBegins (held : Bool) (c d : CpuView) (r : ReadingView) : Type 0 where
  pub between : CpuView
  pub look : LookView
  pub looks : Looks c between look
  pub enters : Begins held between look d r

-- a reading, which ends here
abbrev pub Enters : CpuView → LookView → CpuView → ReadingView → Type 0
Enters = Begins false

abbrev pub ReadLocks : CpuView → CpuView → ReadingView → Type 0
ReadLocks = LooksAndBegins false

-- a held section, which ends on any processor
abbrev pub DownReads : CpuView → CpuView → ReadingView → Type 0
DownReads = LooksAndBegins true

-- what a reading has seen ends with the beginning of its section, on its processor and with its index
pub record EndsWithBegin (r : ReadingView) : Type 0 where
  pub before : List Event
  pub whole : r.seen ≡ before ++ Begin r.section r.processor r.index (Processor r.processor) ∷ []

-- the reading's section is among those that were begun here
abbrev pub HasBegun : CpuView → ReadingView → Type 0
HasBegun c r = Contains c.mine (Begin r.section r.processor r.index (Processor r.processor))

-- the section of the reading ends
abbrev pub Unlocks : ReadingView → CpuView → CpuView → Type 0
Unlocks r c d = AddsEvent r.seen r.changes (End r.section c.processor (Processor c.processor)) c d

-- as many sections of the index were begun here as may be
abbrev pub IsExhausted : CpuView → Index → Type 0
IsExhausted c i = locks c.processor i c.mine ≡ c.sections

-- a look, at an index of which no more sections may be begun here
pub record LooksInVain (c d : CpuView) : Type 0 where
  pub look : LookView
  pub looks : Looks c d look
  pub exhausted : IsExhausted d look.index

-- the reading is of this processor
abbrev pub IsHere : CpuView → ReadingView → Type 0
IsHere c r = (r.domain ≡ c.domain) × (r.processor ≡ c.processor)

-- Cookies

-- one load found the number, which was that of what is then seen and no older than any that the processor had seen; and the cookie of it was given
pub record Notes (number : ℕ) (c d : CpuView) : Type 0 where
  pub adds : AddsEvent c.seen c.changes (Note (cookie_at number) (Processor c.processor)) c d
  pub current : number ≡ number_word d.changes
  pub since : number_word c.changes ≤ number
  pub small : number + 4 ≤ 2 ^ 61

pub record GivesCookie (c d : CpuView) (cookie : CookieView) : Type 0 where
  pub number : ℕ
  pub notes : Notes number c d
  pub cookie_is : cookie ≡ record { domain = c.domain; number = cookie_at number; seen = d.seen; changes = d.changes }

-- one load found the number, which was that of what is then seen, and the answer is whether the cookie is done there
pub record Asks (other : List Event) (reached cookie : ℕ) (answer : Bool) (c d : CpuView) : Type 0 where
  pub number : ℕ
  pub adds : AddsEvent other reached (Ask cookie answer (Processor c.processor)) c d
  pub current : number ≡ number_word d.changes
  pub since : number_word c.changes ≤ number
  pub answer_is : IsTrue answer ↔ IsDoneAt number cookie
  pub small : number + 4 ≤ 2 ^ 61

-- the last thing that was seen is that the cookie was given
pub record EndsWithNote (number : ℕ) (seen : List Event) : Type 0 where
  pub before : List Event
  pub by : Maker
  pub whole : seen ≡ before ++ Note number by ∷ []

-- a number that no cookie has
abbrev pub IsNoCookie : ℕ → Type 0
IsNoCookie number = ¬ IsCookieNumber number

-- no section that was open then is open now
abbrev pub AllClosed : List Event → List Event → Type 0
AllClosed seen now = (s : ℕ) → IsOpen seen s → ¬ IsOpen now s

-- Counters

-- one load of a lock counter found as many as were begun there, with this index, in what is then seen
pub record FindsLocks (p : ℕ) (i : Index) (found : ℕ) (c d : CpuView) : Type 0 where
  pub load : Loads (LoadLocks p i found (length d.seen)) c d
  pub exact : found ≡ locks p i d.seen
  pub bound : all_locks d.processors i d.seen ≤ 2 ^ 60

-- one load of an unlock counter found as many as have ended there, with this index, in what is then seen
pub record FindsUnlocks (q : ℕ) (i : Index) (found : ℕ) (c d : CpuView) : Type 0 where
  pub load : Loads (LoadUnlocks q i found (length d.seen)) c d
  pub exact : found ≡ unlocks q i d.seen
  pub bound : all_locks d.processors i d.seen ≤ 2 ^ 60

-- New processors

-- a processor that knows of nothing yet
abbrev pub new_cpu : TableId → ℕ → ℕ → ℕ → CpuView
new_cpu domain processors sections k = record { domain = domain; processors = processors; sections = sections; processor = k; seen = []; changes = 0; texts = []; mine = []; steps = []; left = None }

-- processor k stands at k
abbrev pub AreNew : TableId → ℕ → ℕ → List CpuView → Type 0
AreNew domain processors sections cpus = (k : ℕ) (d : CpuView) → k < length cpus → slice_index_or cpus k d ≡ new_cpu domain processors sections k

-- Ties

-- one load of the index word by the processor, after which it has seen what another has, who has seen so many changes
pub record Hears (c : CpuView) (other : List Event) (reached : ℕ) (c' : CpuView) : Type 0 where
  pub value : ℕ
  pub current : value ≡ index_word c'.changes
  pub looks : Loads (LoadIndex value) c c'
  pub covers : IsBeginning other c'.seen
  pub not_before : reached ≤ c'.changes

-- one load of the index word by the processor, after which it has seen just this, with these texts. The word is no older than that
pub record Accepts (c : CpuView) (all : List Event) (reached : ℕ) (known : List Text) (c' : CpuView) : Type 0 where
  pub value : ℕ
  pub same : IsSameCpu c c'
  pub mine : c'.mine ≡ c.mine
  pub steps : c'.steps ≡ c.steps ++ LoadIndex value ∷ []
  pub seen : c'.seen ≡ all
  pub changes : c'.changes ≡ reached
  pub texts : c'.texts ≡ known
  pub texts_since : IsStart c.texts known
  pub found : IsIndexWord value reached
  pub history : IsSeenBy c'

-- both made one load, and no event, and have then seen one history, which covers what each had seen. So each of the two has there just its own events
pub record Ties (c d c' d' : CpuView) : Type 0 where
  pub value : ℕ
  pub current : value ≡ index_word c'.changes
  pub looks : Loads (LoadIndex value) c c'
  pub accepts : Accepts d c'.seen c'.changes c'.texts d'
  pub since : IsBeginning d.seen d'.seen
  pub later : d.changes ≤ d'.changes
  pub comparable : IsBeginning c.seen d.seen ⊎ IsBeginning d.seen c.seen
  pub first_known : HasSeenOf (Processor c.processor) c.mine d.seen
  pub second_known : HasSeenOf (Processor d.processor) d.mine c.seen

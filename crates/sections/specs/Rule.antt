-- The rule of a domain's table: there is one legal history, the words agree with it, and each seat knows a part of it.
use Rattle.std.specs.Prelude.{◌≡◌, ℕ, ◌+◌, ◌*◌, ◌^◌, ◌<◌, ◌≤◌, List, [], ◌∷◌, ◌++◌, All, None, length, filter, map, replicate}
use mathlib.Core.Option.{some}
use lib.ListN.{get_elem?}
use Rattle.atomic_table.specs.Table.{State}
use Rattle.sseq.specs.declared.index.Index.{Index}
use Rattle.onedom.specs.declared.event.Maker.{Maker}
use Rattle.onedom.specs.declared.event.Maker.TheVariants.{Processor, Engine}
use Rattle.onedom.specs.declared.event.Event.{Event}
use Rattle.onedom.specs.declared.event.Event.TheVariants.{Begin, End, Start, Finish, Note, Ask, Find, Put}
use Rattle.onedom.specs.Histories.{begins_of, IsOpen, index_of, IsLegal, same_maker, made_by, IsBeginning}
use Rattle.sections.specs.Slots.{Slot}
use Rattle.sections.specs.declared.view.Bounds.{Bounds}
use Rattle.sections.specs.declared.view.Role.{Role}
use Rattle.sections.specs.declared.view.Role.TheVariants.{Bearer, Cpu, Driver}
use Rattle.sections.specs.declared.view.Right.{Right}
use Rattle.sections.specs.declared.view.Right.TheVariants.{Nothing, Section, Shelf, Undealt}
use Rattle.sections.specs.declared.view.Shown.{Shown}
use Rattle.sections.specs.declared.view.Shown.TheVariants.{Unknown, To}
use Rattle.sections.specs.declared.view.Moment.{Moment}
use Rattle.sections.specs.declared.view.Step.{Step}
use Rattle.sections.specs.declared.view.Step.TheVariants.{LoadIndex, LoadUnlocks, LoadLocks, AddIndex, AddNumber, LoadWord}
use Rattle.sections.specs.declared.view.Deed.{Deed}
use Rattle.sections.specs.declared.view.Text.{Text}
use Rattle.sections.specs.declared.view.View.{View}
use Rattle.sections.specs.Words.{locks, unlocks, index_word, number_word, Agree}
use Rattle.sections.specs.Shelves.{KeepsShelf}
use Rattle.sections.specs.Banks.{no_plan, KeepsBanks}

abbrev pub IsProcessor : ℕ → Maker → Type 0
IsProcessor processors (Processor p) = p < processors
IsProcessor processors Engine = ⊥

-- a section begins and ends on the processor that makes the event, grace periods are the engine's, and cookies are given and asked after by processors
abbrev pub HasItsMaker : ℕ → Event → Type 0
HasItsMaker processors (Begin s p i by) = (p < processors) × (by ≡ Processor p)
HasItsMaker processors (End s q by) = (q < processors) × (by ≡ Processor q)
HasItsMaker processors (Start by) = by ≡ Engine
HasItsMaker processors (Finish by) = by ≡ Engine
HasItsMaker processors (Note cookie by) = IsProcessor processors by
HasItsMaker processors (Ask cookie done by) = IsProcessor processors by
HasItsMaker processors (Find s cell slot version by) = IsProcessor processors by
HasItsMaker processors (Put cell slot version by) = IsProcessor processors by

-- Moments

-- the history went on from there, and so did the engine's changes
pub record GoesOn (a b : Moment) : Type 0 where
  pub history : IsBeginning a.history b.history
  pub changes : a.changes ≤ b.changes

abbrev pub moment_of : View → Moment
moment_of v = record { history = v.seen; changes = v.changes; texts = v.texts }

-- what is known of a processor: it has seen so many changes, at least
abbrev pub HasReached : (ℕ → ℕ) → Shown → Type 0
HasReached reached Unknown = Unit {0}
HasReached reached (To p changes) = changes ≤ reached p

-- Steps that are no events

-- the word is what the moment behind the step says
abbrev pub IsTrueOf : Moment → Step → Type 0
IsTrueOf m (LoadIndex n) = n ≡ index_word m.changes
IsTrueOf m (LoadUnlocks q i n long) = (n ≡ unlocks q i m.history) × (long ≡ length m.history)
IsTrueOf m (LoadLocks p i n long) = (n ≡ locks p i m.history) × (long ≡ length m.history)
IsTrueOf m (AddIndex n) = n ≡ index_word m.changes
IsTrueOf m (AddNumber n) = n ≡ number_word m.changes
IsTrueOf m (LoadWord c v i n) = Unit {0}

-- each was done at a moment that goes on from those of the ones before
abbrev pub AreOrdered : List Deed → Type 0
AreOrdered [] = Unit {0}
AreOrdered (d ∷ ds) = All (λ e. GoesOn d.at e.at) ds × AreOrdered ds

-- all that was done until now
pub record AreDone (deeds : List Deed) (now : Moment) : Type 0 where
  pub words : All (λ d. IsTrueOf d.at d.step) deeds
  pub ordered : AreOrdered deeds
  pub until : All (λ d. GoesOn d.at now) deeds

abbrev pub done_by : Maker → List Deed → List Deed
done_by m deeds = filter (λ d. same_maker d.by m) deeds

-- the steps of one maker
abbrev pub steps_of : Maker → List Deed → List Step
steps_of m deeds = map (λ d. d.step) (done_by m deeds)

pub record IsUpto (done deeds : List Deed) : Type 0 where
  pub rest : List Deed
  pub whole : deeds ≡ done ++ rest

-- whose steps a seat makes
abbrev pub IsMaker : Role → Maker → Type 0
IsMaker Bearer m = ⊥
IsMaker (Cpu p) m = m ≡ Processor p
IsMaker (Driver k) m = m ≡ Engine

-- the engine's seat stands for the processors that are still to be dealt too
abbrev pub StandsFor : Role → Maker → Type 0
StandsFor Bearer m = ⊥
StandsFor (Cpu p) m = m ≡ Processor p
StandsFor (Driver k) Engine = Unit {0}
StandsFor (Driver k) (Processor p) = k ≤ p

-- what a seat knows of all that was done is a beginning of it, in which all of its own steps are
pub record HasDone (deeds : List Deed) (v : View) : Type 0 where
  pub upto : IsUpto v.done deeds
  pub own : (m : Maker) → StandsFor v.role m → done_by m v.done ≡ done_by m deeds

-- What a seat knows

-- what is true of a domain, beside its words: the history, and how many changes the engine made; of each processor its seat, and how many changes it has seen at least; of each section the seat with the right to end it; and the engine's seat
pub record Truth : Type 0 where
  pub log : List Event
  pub changes : ℕ
  pub seat_of : ℕ → ℕ
  pub reached : ℕ → ℕ
  pub holder : ℕ → ℕ
  pub engine : ℕ

module _ (truth : Truth) (seat : ℕ) where
  open truth use {log, changes, seat_of, reached, holder, engine}

  -- a maker has one seat, which knows all of its events. The engine is also each processor from k on: these have no seat and no event yet
  abbrev pub Makes : Role → List Event → Type 0
  Makes Bearer mine = Unit {0}
  Makes (Cpu p) mine = (seat_of p ≡ seat) × (mine ≡ made_by (Processor p) log)
  Makes (Driver k) mine = (engine ≡ seat) × (mine ≡ made_by Engine log) × ((p : ℕ) → k ≤ p → (seat_of p ≡ seat) × (made_by (Processor p) log ≡ []))

  -- the right to end a section is at one seat alone, and the section is open
  abbrev pub Has : Right → Type 0
  Has Nothing = Unit {0}
  Has (Section s p i us hand) = (holder s ≡ seat) × IsOpen log s × (index_of s log ≡ i) × (begins_of s (made_by (Processor p) log) ≡ 1)
  Has (Shelf c words seen q) = Unit {0}
  Has (Undealt c) = Unit {0}

  -- nobody has seen more changes than there were, the engine knows how many there were, and a processor has seen what is known of it
  abbrev pub Knows : Role → ℕ → Type 0
  Knows Bearer known = known ≤ changes
  Knows (Cpu p) known = (reached p ≤ known) × (known ≤ changes)
  Knows (Driver k) known = known ≡ changes

  pub record Fits (v : View) : Type 0 where
    pub seen : IsBeginning v.seen log
    pub knows : Knows v.role v.changes
    pub told : All (λ m. GoesOn m record { history = log; changes = changes; texts = [] }) v.told
    pub makes : Makes v.role v.mine
    pub has : Has v.right
    pub shown : HasReached reached v.shown

-- The rule

-- the history is legal, no processor began more sections of one index than it may, and there were no more periods than may be
pub record IsWithin (bounds : Bounds) (log : List Event) (changes : ℕ) : Type 0 where
  pub legal : IsLegal log
  pub makers : All (HasItsMaker bounds.processors) log
  pub limited : (p : ℕ) (i : Index) → locks p i log ≤ bounds.sections
  pub periods : changes ≤ 4 * bounds.periods

-- no word comes near 2 ^ 64, and neither does the sum of an index's lock counters
pub record AreSmall (bounds : Bounds) : Type 0 where
  pub counters : bounds.processors * bounds.sections ≤ 2 ^ 60
  pub periods : bounds.periods < 2 ^ 59

pub record Kept (bounds : Bounds) (s : State Slot View) : Type 0 where
  pub truth : Truth
  pub open truth use *
  pub small : AreSmall bounds
  pub within : IsWithin bounds log changes
  pub words : Agree bounds.processors s.words log changes
  pub known : (p : ℕ) → reached p ≤ changes
  pub each_view : (j : ℕ) (v : View) → get_elem? s.views j ≡ some v → Fits truth j v
  pub deeds : List Deed
  pub done : AreDone deeds record { history = log; changes = changes; texts = [] }
  pub each_done : (j : ℕ) (v : View) → get_elem? s.views j ≡ some v → HasDone deeds v
  pub shelf : KeepsShelf bounds s.words s.views log deeds
  pub banks : KeepsBanks bounds s.homes s.views log shelf.texts

-- Views that are made

abbrev pub founder : Bounds → View
founder bounds = record { processors = bounds.processors; role = Driver 0; mine = []; seen = []; changes = 0; texts = []; told = []; right = Undealt 0; shown = To 0 0; done = []; left = None }

abbrev pub token : List Event → ℕ → List Text → Right → View
token seen changes texts right = record { processors = 0; role = Bearer; mine = []; seen = seen; changes = changes; texts = texts; told = []; right = right; shown = Unknown; done = []; left = None }

-- a seat of its own takes the right, and has seen as much
abbrev pub lacking : View → View
lacking v = record v { right = Nothing }

abbrev pub bearer : View → View
bearer v = token v.seen v.changes v.texts v.right

-- what the other seat has seen is told, and its right is taken over
abbrev pub informed : View → View → View
informed v w = record v { told = moment_of w ∷ v.told; right = w.right }

-- a seat of its own has seen as much, and can show how many changes this processor has seen, or what is known of another
abbrev pub mark : Role → ℕ → Shown → Shown
mark Bearer changes known = known
mark (Cpu p) changes known = To p changes
mark (Driver k) changes known = known

abbrev pub shower : View → View
shower v = record (token v.seen v.changes v.texts Nothing) { shown = mark v.role v.changes v.shown }

-- what the other seat has seen is told, and what is known of a processor
abbrev pub hearing : View → View → View
hearing v w = record v { told = moment_of w ∷ v.told; right = w.right; shown = w.shown }

-- what is known of a processor is noted
abbrev pub noting : View → View → View
noting v w = record v { right = w.right; shown = w.shown }

-- the other seat's right is taken back, and nothing is told
abbrev pub regaining : View → View → View
regaining v w = record v { right = w.right }

-- what is left of a seat that was taken in
abbrev pub spent : View
spent = token [] 0 [] Nothing

abbrev pub without_next : Role → Role
without_next Bearer = Bearer
without_next (Cpu p) = Cpu p
without_next (Driver k) = Driver (k + 1)

abbrev pub next_role : Role → Role
next_role Bearer = Bearer
next_role (Cpu p) = Bearer
next_role (Driver k) = Cpu k

-- the engine lets go of its next processor
abbrev pub dealer : View → View
dealer v = record v { role = without_next v.role }

abbrev pub without_cell : Right → Right
without_cell Nothing = Nothing
without_cell (Section s p i us hand) = Nothing
without_cell (Shelf c words seen q) = Nothing
without_cell (Undealt k) = Undealt (k + 1)

abbrev pub next_cell : Right → Right
next_cell Nothing = Nothing
next_cell (Section s p i us hand) = Nothing
next_cell (Shelf c words seen q) = Nothing
next_cell (Undealt k) = Shelf k (replicate 128 0) [] no_plan

-- the engine lets go of its next cell
abbrev pub pen_dealer : View → View
pen_dealer v = record v { right = without_cell v.right }

abbrev pub pen_dealt : View → View
pen_dealt v = token v.seen v.changes v.texts (next_cell v.right)

abbrev pub dealt : View → View
dealt v = record { processors = v.processors; role = next_role v.role; mine = []; seen = v.seen; changes = v.changes; texts = v.texts; told = []; right = Nothing; shown = Unknown; done = v.done; left = None }

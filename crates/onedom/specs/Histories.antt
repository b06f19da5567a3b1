-- Histories of a domain: lists of events, the oldest first.
use Rattle.std.specs.Prelude.{◌≡◌, ◌≢◌, ℕ, ◌+◌, ◌*◌, ◌%◌, ◌<◌, ◌≤◌, ◌==◌, ◌&&◌, ◌↔◌, nat_lt, Bool, true, false, IsTrue, List, [], ◌∷◌, ◌++◌, Option, Some, None, count_by, filter, fold, if◌then◌else◌}
use Rattle.std.specs.List.{filter_map}
use Rattle.sseq.specs.declared.index.Index.{Index}
use Rattle.sseq.specs.declared.index.Index.TheVariants.{Zero}
use Rattle.sseq.specs.Numbers.{IsCookieNumber, IsDoneAt}
use Rattle.onedom.specs.declared.event.Maker.{Maker}
use Rattle.onedom.specs.declared.event.Maker.TheVariants.{Processor, Engine}
use Rattle.onedom.specs.declared.event.Event.{Event}
use Rattle.onedom.specs.declared.event.Event.TheVariants.{Begin, End, Start, Finish, Note, Ask, Find, Put}

-- Sections

abbrev pub begins : ℕ → Event → Bool
begins s (Begin t p i by) = t == s
begins s e = false

abbrev pub ends : ℕ → Event → Bool
ends s (End t q by) = t == s
ends s e = false

-- how often a section was begun
abbrev pub begins_of : ℕ → List Event → ℕ
begins_of s history = count_by (begins s) history

-- how often a section was ended
abbrev pub ends_of : ℕ → List Event → ℕ
ends_of s history = count_by (ends s) history

-- the section was begun, and it was not ended
abbrev pub IsOpen : List Event → ℕ → Type 0
IsOpen history s = (0 < begins_of s history) × (ends_of s history ≡ 0)

abbrev pub section_begun : Event → Option ℕ
section_begun (Begin s p i by) = Some s
section_begun e = None

-- the sections that were begun, without those that were ended
abbrev pub open_sections : List Event → List ℕ
open_sections history = filter (λ s. ends_of s history == 0) (filter_map section_begun history)

abbrev pub index_after : ℕ → Index → Event → Index
index_after s k (Begin t p i by) = if t == s then i else k
index_after s k e = k

-- the index with which the section was begun last (`Zero` where it never was)
abbrev pub index_of : ℕ → List Event → Index
index_of s history = fold (index_after s) Zero history

-- Histories side by side

-- the history goes on from what was seen
pub record IsBeginning (seen history : List Event) : Type 0 where
  pub rest : List Event
  pub whole : history ≡ seen ++ rest

-- Grace periods

abbrev pub is_start : Event → Bool
is_start (Start by) = true
is_start e = false

abbrev pub is_finish : Event → Bool
is_finish (Finish by) = true
is_finish e = false

abbrev pub starts_in : List Event → ℕ
starts_in history = count_by is_start history

-- how many grace periods have ended
abbrev pub ended_in : List Event → ℕ
ended_in history = count_by is_finish history

-- more grace periods were started than have ended
abbrev pub IsRunning : List Event → Type 0
IsRunning history = ended_in history < starts_in history

-- the history is `before`, then the start of its last grace period, and what came since
pub record IsBeforeLastStart (before history : List Event) : Type 0 where
  pub by : Maker
  pub since : List Event
  pub whole : history ≡ before ++ Start by ∷ since
  pub last : starts_in since ≡ 0

-- the section was open when the last grace period started
pub record WasOpenAtStart (history : List Event) (s : ℕ) : Type 0 where
  pub before : List Event
  pub started : IsBeforeLastStart before history
  pub was_open : IsOpen before s

-- no section of the index is open
abbrev pub IsEmpty : Index → List Event → Type 0
IsEmpty i history = (s : ℕ) → IsOpen history s → index_of s history ≢ i

-- at a moment since the last start no section of the index was open
pub record WasEmpty (i : Index) (history : List Event) : Type 0 where
  pub moment : List Event
  pub upto : IsBeginning moment history
  pub since_start : starts_in moment ≡ starts_in history
  pub empty : IsEmpty i moment

-- Cookies

-- the cookie that is given now: the number that the domain has once a grace period has ended that is still to start
abbrev pub cookie_after : List Event → ℕ
cookie_after history = 4 * (ended_in history + (if nat_lt (ended_in history) (starts_in history) then 2 else 1))

-- as many grace periods have ended as the cookie waits for. The completed cookie waits for none
abbrev pub IsDone : ℕ → List Event → Type 0
IsDone cookie history = IsDoneAt (4 * ended_in history) cookie

-- Versions

abbrev pub slot_after : ℕ → ℕ → Event → ℕ
slot_after cell k (Put c slot version by) = if c == cell then slot else k
slot_after cell k e = k

-- the slot that is current in a cell: that of its last Put
abbrev pub slot_of : ℕ → List Event → ℕ
slot_of cell history = fold (slot_after cell) 0 history

abbrev pub version_after : ℕ → ℕ → Event → ℕ
version_after cell k (Put c slot version by) = if c == cell then version else k
version_after cell k e = k

-- the version that is current in a cell
abbrev pub version_of : ℕ → List Event → ℕ
version_of cell history = fold (version_after cell) 0 history

abbrev pub finds : ℕ → ℕ → ℕ → Event → Bool
finds s cell slot (Find t c x version by) = (t == s) && ((c == cell) && (x == slot))
finds s cell slot e = false

-- how often a section has found a slot of a cell
abbrev pub finds_of : ℕ → ℕ → ℕ → List Event → ℕ
finds_of s cell slot history = count_by (finds s cell slot) history

-- a Put of this cell, and one of this slot of it
abbrev pub puts_in : ℕ → Event → Bool
puts_in cell (Put c slot version by) = c == cell
puts_in cell e = false

abbrev pub puts : ℕ → ℕ → Event → Bool
puts cell slot (Put c x version by) = (c == cell) && (x == slot)
puts cell slot e = false

abbrev pub shelved_after : ℕ → ℕ → ℕ → Event → ℕ
shelved_after cell slot k (Put c x version by) = if (c == cell) && (x == slot) then version else k
shelved_after cell slot k e = k

-- the version that was put into a slot last
abbrev pub shelved : ℕ → ℕ → List Event → ℕ
shelved cell slot history = fold (shelved_after cell slot) 0 history

-- the section has found this slot, with this version
pub record HasFound (history : List Event) (s cell slot version : ℕ) : Type 0 where
  pub before : List Event
  pub by : Maker
  pub after : List Event
  pub whole : history ≡ before ++ Find s cell slot version by ∷ after

-- nobody can read the slot: it is not current, and no section that is open has found it
pub record IsClear (history : List Event) (cell slot : ℕ) : Type 0 where
  pub resting : slot ≢ slot_of cell history
  pub unread : (s : ℕ) → IsOpen history s → finds_of s cell slot history ≡ 0

-- What may follow

-- A section has a number that no section had; only an open section can end. One grace period runs at a time, and it ends only once every section that was open at its start is closed.
-- A cookie waits for a period that is still to start, and whoever asks is told whether it is done. An open section finds what is current in a cell, and the next version goes into a slot that nobody can read
abbrev pub MayFollow : List Event → Event → Type 0
MayFollow history (Begin s p i by) = begins_of s history ≡ 0
MayFollow history (End s q by) = IsOpen history s
MayFollow history (Start by) = ¬ IsRunning history
MayFollow history (Finish by) = IsRunning history × ((s : ℕ) → WasOpenAtStart history s → ¬ IsOpen history s)
MayFollow history (Note cookie by) = cookie ≡ cookie_after history
MayFollow history (Ask cookie done by) = IsCookieNumber cookie × (IsTrue done ↔ IsDone cookie history)
MayFollow history (Find s cell slot version by) = IsOpen history s × (slot ≡ slot_of cell history) × (version ≡ version_of cell history)
MayFollow history (Put cell slot version by) = IsClear history cell slot × (version ≡ version_of cell history + 1)

abbrev pub IsLegalAfter : List Event → List Event → Type 0
IsLegalAfter before [] = Unit {0}
IsLegalAfter before (e ∷ es) = MayFollow before e × IsLegalAfter (before ++ e ∷ []) es

-- each event may follow those before it
abbrev pub IsLegal : List Event → Type 0
IsLegal history = IsLegalAfter [] history

-- Makers

abbrev pub maker_of : Event → Maker
maker_of (Begin s p i by) = by
maker_of (End s q by) = by
maker_of (Start by) = by
maker_of (Finish by) = by
maker_of (Note cookie by) = by
maker_of (Ask cookie done by) = by
maker_of (Find s cell slot version by) = by
maker_of (Put cell slot version by) = by

abbrev pub same_maker : Maker → Maker → Bool
same_maker (Processor p) (Processor q) = p == q
same_maker (Processor p) Engine = false
same_maker Engine (Processor q) = false
same_maker Engine Engine = true

-- the events of one maker, in their order
abbrev pub made_by : Maker → List Event → List Event
made_by m history = filter (λ e. same_maker (maker_of e) m) history

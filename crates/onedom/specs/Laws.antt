-- What holds of all legal histories. It follows from the definitions, and shows that they say what they should.
use Rattle.std.specs.Prelude.{◌≡◌, ℕ, ◌+◌, ◌<◌, ◌≤◌, ◌==◌, ◌↔◌, ◌≢◌, true, false, List, [], ◌∷◌, ◌++◌, count_by}
use Rattle.sseq.specs.declared.index.Index.{Index}
use Rattle.onedom.specs.declared.event.Maker.{Maker}
use Rattle.onedom.specs.declared.event.Event.{Event}
use Rattle.onedom.specs.declared.event.Event.TheVariants.{End, Finish, Note, Ask}
use Rattle.onedom.specs.Histories.{begins_of, ends_of, IsOpen, open_sections, starts_in, ended_in, IsRunning, WasEmpty, slot_of, version_of, shelved, puts, finds_of, HasFound, IsClear, MayFollow, IsLegal, IsBeginning}

-- how often a number stands in a list
abbrev pub times : ℕ → List ℕ → ℕ
times s sections = count_by (λ t. t == s) sections

-- Legality

-- wherever a legal history is cut, the event behind the cut may follow what is before it, and no other history is legal
abbrev pub EachMayFollow : Type 0
EachMayFollow = (history : List Event) → IsLegal history ↔ ((before : List Event) (e : Event) (after : List Event) → history ≡ before ++ e ∷ after → MayFollow before e)

abbrev pub OneMore : Type 0
OneMore = (history : List Event) (e : Event) → IsLegal (history ++ e ∷ []) ↔ (IsLegal history × MayFollow history e)

abbrev pub BeginningsAreLegal : Type 0
BeginningsAreLegal = (seen history : List Event) → IsBeginning seen history → IsLegal history → IsLegal seen

-- Sections

abbrev pub OpenHasOneBegin : Type 0
OpenHasOneBegin = (history : List Event) (s : ℕ) → IsLegal history → IsOpen history s → (begins_of s history ≡ 1) × (ends_of s history ≡ 0)

abbrev pub OnlyOpenEnds : Type 0
OnlyOpenEnds = (before : List Event) (s q : ℕ) (by : Maker) (after : List Event) → IsLegal (before ++ End s q by ∷ after) → IsOpen before s

-- a section that was closed is never open again: it has no more events
abbrev pub ClosedForGood : Type 0
ClosedForGood = (history rest : List Event) (s : ℕ) → IsLegal (history ++ rest) → 0 < ends_of s history → (¬ IsOpen (history ++ rest) s) × (begins_of s rest ≡ 0) × (ends_of s rest ≡ 0)

-- the list of open sections has each open section once, and no other
abbrev pub OpenAreListed : Type 0
OpenAreListed = (history : List Event) (s : ℕ) → IsLegal history → (0 < times s (open_sections history) ↔ IsOpen history s) × (times s (open_sections history) ≤ 1)

-- Grace periods

abbrev pub OnePeriodRuns : Type 0
OnePeriodRuns = (history : List Event) → IsLegal history → (ended_in history ≤ starts_in history) × (starts_in history ≤ ended_in history + 1)

-- a grace period may end where, for each of the two indexes, no section of it was open at a moment since the start: the two moments need not be the same
abbrev pub EmptyInTurnMayEnd : Type 0
EmptyInTurnMayEnd = (history : List Event) (by : Maker) → IsLegal history → IsRunning history → ((i : Index) → WasEmpty i history) → MayFollow history (Finish by)

-- The law of grace periods: where a cookie was given, and later somebody who asked after it, or after a greater one, was told that it is done, no section that was open when it was given is still open
abbrev pub GracePeriodLaw : Type 0
GracePeriodLaw = (before between after : List Event) (cookie asked : ℕ) (giver asker : Maker) → IsLegal (before ++ Note cookie giver ∷ between ++ Ask asked true asker ∷ after) → cookie ≤ asked → (s : ℕ) → IsOpen before s → ¬ IsOpen (before ++ Note cookie giver ∷ between) s

-- Versions

-- what is current in a cell was put into its slot last
abbrev pub CurrentIsShelved : Type 0
CurrentIsShelved = (history : List Event) (cell : ℕ) → IsLegal history → shelved cell (slot_of cell history) history ≡ version_of cell history

-- what a section found is there as long as the section is open
abbrev pub FoundStays : Type 0
FoundStays = (history : List Event) (s cell slot version : ℕ) → IsLegal history → IsOpen history s → HasFound history s cell slot version → shelved cell slot history ≡ version

-- a slot that nobody can read stays so until something is put into it
abbrev pub ClearUntilPut : Type 0
ClearUntilPut = (history : List Event) (e : Event) (cell slot : ℕ) → IsLegal history → MayFollow history e → puts cell slot e ≡ false → IsClear history cell slot → IsClear (history ++ e ∷ []) cell slot

-- The law of reclamation: where a slot was not current any more when a cookie was given, and has not been found or put since, nobody can read it once somebody who asked was told that the cookie is done
abbrev pub ReclaimLaw : Type 0
ReclaimLaw = (before between after : List Event) (cookie asked cell slot : ℕ) (giver asker : Maker) → IsLegal (before ++ Note cookie giver ∷ between ++ Ask asked true asker ∷ after) → cookie ≤ asked
    → ((s : ℕ) → finds_of s cell slot (before ++ Note cookie giver ∷ between ++ Ask asked true asker ∷ after) ≡ finds_of s cell slot before)
    → slot ≢ slot_of cell (before ++ Note cookie giver ∷ between ++ Ask asked true asker ∷ after)
    → IsClear (before ++ Note cookie giver ∷ between ++ Ask asked true asker ∷ after) cell slot
